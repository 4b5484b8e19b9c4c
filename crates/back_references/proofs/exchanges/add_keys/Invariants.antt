use Rattle.std.proofs.Common.{◌≡◌, ◌++◌, map, take}
use Rattle.back_references.proofs.exchanges.add_keys.Given as goal

abbrev pub invariant-loop-pair : goal.invariant-loop-pair
invariant-loop-pair g l = l.keys.items ≡ l.initial.keys.items ++ map (λ p. p.0) (take l.pair-index l.pairs)
