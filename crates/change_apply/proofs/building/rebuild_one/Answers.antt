use Rattle.std.proofs.Common.{◌≡◌, cond, Some, Result, OnOk, Ok, Err, ap, subst, ◌∙◌}
use Rattle.std.specs.FinMap.{find}
use Rattle.std.specs.Ordering.{eq_by_cmp}
use Rattle.road_base.specs.declared.ids.WayId.{WayId}
use Rattle.road_model.specs.Orders.{way_cmp}
use Rattle.change_apply.specs.Rebuilding.{IsBuilt, over}
use Rattle.change_apply.proofs.FreshBlocks.{over_insert}
use Rattle.change_apply.proofs.RebuiltBlocks.{rebuilt_with}
use Rattle.change_apply.proofs.building.rebuild_one.Goals as goal

on_ok : {T E : Type 0} {A B : Type 0} (r : Result T E) → OnOk r A → (A → B) → OnOk r B
on_ok (Ok x) a f = f a
on_ok (Err e) a f = tt

pub returns-clause-rebuilt : goal.returns-clause-rebuilt
returns-clause-rebuilt g c = on_ok c.insert.result c.insert.ensures.ok (λ put before.
    let M = g.M.World.objects c.args.builder.now.world in
    let P = g.P.Profile.rules c.args.builder.now.profile in
    let total = c.name_order.ensures.ways in
    let way = c.args.way in
    let block = c.in_ok-block.block in
    let old = over c.args.blocks.now.map before in
    let new = over c.insert.new.self.map before in
    let is : IsBuilt M P way block = record {
      block = c.in_ok-block.ensures.block;
      pieces = c.in_ok-block.ensures.form.0;
      ascend = c.in_ok-block.ensures.form.1;
    } in
    let Got : WayId → Type 0 = λ x. (w : WayId)
    → find way_cmp w new ≡ cond (eq_by_cmp way_cmp w x) (Some block) (find way_cmp w old) in
    let got : Got block.way = λ w.
    ap (λ m. find way_cmp w (over m before)) put
    ∙ over_insert total c.args.blocks.now.map before block.way block w in
    rebuilt_with total c.name_order.ensures.way_ties M P way block old new is
    (subst Got is.block.way got))
