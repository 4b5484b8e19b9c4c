use Rattle.std.proofs.Common.{arith}
use Rattle.cells.proofs.PlacesWithin.{counted}
use Rattle.cells.proofs.made.nodes_in.Goals.{then-lies_in, else-lies_in}
use Rattle.cells.proofs.made.nodes_in.Goals as goal

pub loop-event-preserved : goal.loop-event-preserved
loop-event-preserved c =
    let area = c.args.area.now in
    let all = c.args.events.now in
    let i = c.loop-event.event-index in
    let event = c.event-item.result in
    let before = c.loop-event.invariant.0 in
    let few = c.loop-event.invariant.1 in
    elim c.if-lies_in.branch [
      | then-lies_in w ↦
          let sum = w.count-is in (
            counted area all i event c.loop-event.count c.if-lies_in.count 1 c.loop-event-test.true c.event-item.is
                (c.lies_in.ensures.yes w.if-lies_in.true) before sum,
            omega arith,
          )
      | else-lies_in w ↦
          let sum = w.count-is in (
            counted area all i event c.loop-event.count c.if-lies_in.count 0 c.loop-event-test.true c.event-item.is
                (c.lies_in.ensures.no w.if-lies_in.false) before (omega arith),
            omega arith,
          )
    ]
