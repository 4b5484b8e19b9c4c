use Rattle.std.proofs.Common.{◌≡◌, ◌++◌, take}
use Rattle.back_references.proofs.exchanges.add_values.Given as goal

abbrev pub invariant-loop-value : goal.invariant-loop-value
invariant-loop-value g l = l.list.items ≡ l.initial.list.items ++ take l.value-index l.values
