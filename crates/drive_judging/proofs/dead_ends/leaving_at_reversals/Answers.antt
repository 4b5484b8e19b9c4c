-- The ways at the nodes are all there.
use Rattle.std.proofs.Common.{List, Contains, sym, subst, ◌∙◌}
use Rattle.road_base.specs.declared.ids.NodeId.{NodeId}
use Rattle.road_base.specs.declared.ids.WayId.{WayId}
use Rattle.drive_judging.proofs.dead_ends.leaving_at_reversals.Goals as goal

pub leaving_over-requires : goal.leaving_over-requires
leaving_over-requires g c v w has refers =
    let same = c.as_slice-2.ensures.value ∙ sym c.as_slice.ensures.value in
    subst (λ (l : List WayId). Contains l w) (sym c.as_slice-3.ensures.value)
    (c.in_ok-ways.ensures v w (subst (λ (l : List NodeId). Contains l v) same has) refers)
