use Rattle.std.proofs.Common.{take}
use Rattle.back_references.proofs.ExchangedPairs.{AreOthers}
use Rattle.back_references.proofs.exchanges.others.Given as goal

abbrev pub invariant-loop-value : goal.invariant-loop-value
invariant-loop-value g l = AreOthers (take l.value-index l.values) l.gone l.list.items
