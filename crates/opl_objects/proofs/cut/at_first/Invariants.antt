use Rattle.opl_objects.proofs.ContentsCuts.{IsBehind}
use Rattle.opl_objects.proofs.cut.at_first.Given as goal

abbrev pub invariant-loop-at : goal.invariant-loop-at
invariant-loop-at l = IsBehind l.stop l.bytes l.at
