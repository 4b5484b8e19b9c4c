use Rattle.std.proofs.Common.{take, IsTrue}
use Rattle.expanded_graph.specs.declared.arrivals.Incoming.{Incoming}
use Rattle.expanded_graph.specs.Intersections.{may_follow}
use Rattle.ordered_lists.proofs.ListMembers.{In}
use Rattle.expanded_graph.proofs.plain.are_plain.Given as goal

-- those so far that may go on are plain
abbrev pub invariant-loop-incoming : goal.invariant-loop-incoming
invariant-loop-incoming l =
    (c : Incoming) → In c (take l.incoming-index l.arrivals)
    → IsTrue (may_follow l.meeting.intersection c.from l.departure) → IsTrue c.is_plain
