use Rattle.std.proofs.Common.{◌≡◌, map, take}
use Rattle.expanded_graph.specs.Plain.{going_on, named_alone}
use Rattle.expanded_graph.proofs.plain.plain_sources.Given as goal

-- the names so far are those of the arrivals so far that may go on
abbrev pub invariant-loop-incoming : goal.invariant-loop-incoming
invariant-loop-incoming l =
    l.list.items ≡ map named_alone (going_on l.meeting.intersection l.departure (take l.incoming-index l.arrivals))
