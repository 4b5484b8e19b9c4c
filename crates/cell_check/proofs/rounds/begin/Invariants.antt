use Rattle.std.proofs.Common.{take}
use Rattle.cell_check.specs.Searches.{Finds, GivenFrom, IsOne}
use Rattle.cell_check.proofs.rounds.begin.Given as goal

-- the search came to the keys so far
abbrev pub invariant-loop-key : goal.invariant-loop-key
invariant-loop-key l = Finds l.initial.search l.search (GivenFrom (λ x. IsOne x x) (take l.key-index l.keys))
