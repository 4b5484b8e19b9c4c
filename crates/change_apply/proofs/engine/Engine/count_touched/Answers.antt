use Rattle.std.proofs.Common.{◌≡◌, length, ap, subst, ◌∙◌}
use Rattle.road_base.specs.declared.ids.WayId.{WayId}
use Rattle.road_base.specs.Objects.{Objects}
use Rattle.road_base.specs.Applying.{IsApplied}
use Rattle.road_model.specs.Orders.{way_cmp}
use Rattle.road_model.specs.Links.{AreTouched, IsTouched}
use Rattle.ordered_lists.proofs.AscendingLists.{lists_unique}
use Rattle.change_apply.proofs.engine.Engine.count_touched.Goals as goal

pub returns : goal.returns
returns g c after ways applied are =
    let M = c.args.self.now.world in
    let prepared = c.in_ok-prepared.prepared in
    let here : c.in_ok-world.world ≡ M = c.in_ok-world.ensures ∙ ap (λ f. f.world) c.self.view_is in
    let own = subst (λ (x : Objects). IsApplied x c.args.events.now prepared.after) here c.in_ok-prepared.ensures.after
    in
    let next : prepared.after ≡ after =
    c.one_map.ensures M prepared.after after c.args.events.now own applied in
    let found = c.in_ok-touched.touched in
    let touched : AreTouched M after found =
    subst (λ (x : Objects). AreTouched x after found) (c.in_ok-prepared.ensures.before ∙ here)
    (subst (λ (x : Objects). AreTouched prepared.before x found) next c.in_ok-touched.ensures) in
    ap length c.items.ensures
    ∙ ap length (lists_unique (λ (w : WayId). w) way_cmp c.name_order.ensures.ways (IsTouched M after) found ways
    touched
    are)
