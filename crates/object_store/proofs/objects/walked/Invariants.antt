use Rattle.std.proofs.Common.{◌≡◌, ◌++◌, length}
use Rattle.object_store.proofs.objects.walked.Given as goal

-- with those that are left the list is what it is with all
abbrev pub invariant-loop-event : goal.invariant-loop-event
invariant-loop-event l = l.list.items ++ l.rest ≡ l.fn.walk

abbrev pub decreases-loop-event : goal.decreases-loop-event
decreases-loop-event l = length l.rest
