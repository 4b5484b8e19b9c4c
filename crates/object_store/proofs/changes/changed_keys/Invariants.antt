use Rattle.std.proofs.Common.{take}
use Rattle.object_store.proofs.ChangedKeys.{IsPicked, AltersIn}
use Rattle.object_store.proofs.changes.changed_keys.Given as goal

abbrev pub invariant-loop-event : goal.invariant-loop-event
invariant-loop-event l = IsPicked (AltersIn l.before) (take l.event-index l.events) l.list.items
