use Rattle.std.proofs.Common.{◌≡◌, ◌++◌, filter}
use Rattle.object_store.specs.Keeping.{puts, stands}
use Rattle.object_store.proofs.objects.Objects.changes_of.Given as goal

-- with those that are left the changes are what they are with all
abbrev pub invariant-loop-event : goal.invariant-loop-event
invariant-loop-event l =
    l.changes.items ++ puts (filter (stands l.self) l.event-iterator.rest.items)
    ≡ puts (filter (stands l.self) l.fn.events.items)
