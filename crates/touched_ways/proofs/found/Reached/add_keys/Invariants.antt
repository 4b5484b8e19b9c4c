use Rattle.std.proofs.Common.{◌≡◌, take}
use Rattle.touched_ways.specs.Searches.{Finds, GivenBy}
use Rattle.touched_ways.proofs.found.Reached.add_keys.Given as goal

-- the keys so far were found
abbrev pub invariant-loop-key : goal.invariant-loop-key
invariant-loop-key l = Finds l.fn.self l.self (GivenBy (λ x k. k ≡ x) (take l.key-index l.keys))
