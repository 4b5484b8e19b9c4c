use Rattle.std.proofs.Common.{◌≡◌, true, [], Result, Ok, Err, OnOk, ◌++◌, ◌∷◌, sym, subst, ◌∙◌}
use Rattle.std.specs.FinMap.{FinMap, get}
use Rattle.road_base.specs.declared.ids.WayId.{WayId}
use Rattle.road_model.specs.declared.blocks.Block.{Block}
use Rattle.road_model.specs.Orders.{way_cmp}
use Rattle.road_model.specs.Blocks.{IsBlock, IsRoadBlock}
use Rattle.road_model.specs.Format.{IsBlockForm}
use Rattle.change_apply.specs.Engines.{AreBlocksAmong, AreInForm}
use Rattle.change_apply.proofs.BuiltBlocks.{skipped, added, in_form, empty_by_test, some_by_test}
use Rattle.change_apply.proofs.building.add_block.Goals as goal

on_ok : {T E : Type 0} {A B : Type 0} (r : Result T E) → OnOk r A → (A → B) → OnOk r B
on_ok (Ok x) a f = f a
on_ok (Err e) a f = tt

-- the way has no pieces
pub returns-then-is_empty-clause-added : goal.returns-then-is_empty-clause-added
returns-then-is_empty-clause-added g c = λ ways one has.
    let M = c.args.builder.now.world in
    let P = g.P.Profile.rules c.args.builder.now.profile in
    let test = empty_by_test c.items.result.now c.is_empty.result c.is_empty.ensures c.if-is_empty.true in
    skipped M P one ways c.args.way c.in_ok-block.block c.args.blocks.now.map c.in_ok-block.ensures.block
    (sym c.items.ensures ∙ test) has

pub returns-clause-added : goal.returns-clause-added
returns-clause-added g c = on_ok c.insert.result c.insert.ensures.ok (λ put ways one has.
    let M = c.args.builder.now.world in
    let P = g.P.Profile.rules c.args.builder.now.profile in
    let block = c.in_ok-block.block in
    let is = c.in_ok-block.ensures.block in
    let test = some_by_test c.items.result.now c.is_empty.result c.is_empty.ensures c.if-is_empty.false in
    let some : block.pieces ≡ [] → ⊥ = λ none. test (c.items.ensures ∙ none) in
    let own = subst (λ w. IsBlock M P w block) (sym is.way) is in
    let road : IsRoadBlock M P block = record { block = own; some = some } in
    let all = added M P c.name_order.ensures.ways c.name_order.ensures.way_ties one ways block c.args.blocks.now.map
    own road has in
    subst (λ (w : WayId). AreBlocksAmong M P (ways ++ w ∷ []) c.insert.new.self.map) is.way
    (subst (λ m. AreBlocksAmong M P (ways ++ block.way ∷ []) m) (sym put) all))

pub returns-clause-forms : goal.returns-clause-forms
returns-clause-forms g c = on_ok c.insert.result c.insert.ensures.ok (λ put all.
    let block = c.in_ok-block.block in
    let test = some_by_test c.items.result.now c.is_empty.result c.is_empty.ensures c.if-is_empty.false in
    let some : block.pieces ≡ [] → ⊥ = λ none. test (c.items.ensures ∙ none) in
    let form : IsBlockForm true block = record {
      some = some;
      ascend = c.in_ok-block.ensures.form.1;
      pieces = c.in_ok-block.ensures.form.0;
    } in
    subst (λ (m : FinMap way_cmp Block). AreInForm (get m)) (sym put)
    (in_form c.name_order.ensures.ways block c.args.blocks.now.map form all))
