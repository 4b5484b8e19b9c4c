use Rattle.std.proofs.Common.{ap, ◌∙◌}
use Rattle.std.specs.List.{flat_map}
use Rattle.cells.specs.Texts.{cell_line}
use Rattle.cells.specs.Made.{places_of}
use Rattle.cells.proofs.PlannedLines.{is_plan}
use Rattle.cells.proofs.plan.planned.Goals as goal

pub returns : goal.returns
returns c = λ events counted.
    let has = c.in_ok-cells.ensures in
    is_plan c.args.rule events c.in_ok-out.out.items c.in_ok-cells.cells.items c.args.counter.counts.grid.side has.cover
    (λ p i. has.counts (places_of events) counted p i) has.grown
    (λ p i. has.small (places_of events) counted p i)
    (c.in_ok-out.ensures ∙ ap (flat_map cell_line) c.deref.ensures.value)
