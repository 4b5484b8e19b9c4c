use Rattle.std.proofs.Common.{◌≡◌, ◌++◌, ◌∷◌, [], Result, Ok, Err, OnOk, IsTrue, sym, subst, ◌∙◌}
use Rattle.road_base.specs.declared.ids.WayId.{WayId}
use Rattle.ordered_lists.specs.Orders.{rises}
use Rattle.road_model.specs.Orders.{way_cmp}
use Rattle.road_model.specs.Blocks.{IsBlock, IsRoadBlock}
use Rattle.road_model.specs.Naming.{OneBlock}
use Rattle.road_model.specs.Format.{IsBlockForm, is_sourced}
use Rattle.compiled_graph.specs.Building.{HasBlocksOf}
use Rattle.compiled_graph.proofs.Built.{same_blocks, no_pieces, one_more, block_form, some_by_test, empty_by_test}
use Rattle.compiled_graph.proofs.blocks.write_block.Goals as goal

on_ok : {T E : Type 0} {A B : Type 0} (r : Result T E) → OnOk r A → (A → B) → OnOk r B
on_ok (Ok x) a f = f a
on_ok (Err e) a f = tt

-- the way has no pieces
pub returns-then-is_empty-clause-written : goal.returns-then-is_empty-clause-written
returns-then-is_empty-clause-written g c = λ ways up has.
    let M = c.args.builder.now.world in
    let P = g.P.Profile.rules c.args.builder.now.profile in
    let one : OneBlock M P = subst (λ (p : g.row.P.Denot). OneBlock M (g.P.Profile.rules p)) c.profile.ensures
    (c.one_block.ensures M) in
    let test = empty_by_test c.items.result.now c.is_empty.result c.is_empty.ensures c.if-is_empty.true in
    let none = sym c.items.ensures ∙ test in
    same_blocks M P ways c.args.way c.args.writer.now has
    (no_pieces M P one c.args.way c.in_ok-block.block c.in_ok-block.ensures.block none)

pub put-requires : goal.put-requires
put-requires g c =
    let block = c.in_ok-block.block in
    let test = some_by_test c.items.result.now c.is_empty.result c.is_empty.ensures c.if-is_empty.false in
    let some : block.pieces ≡ [] → ⊥ = λ none. test (c.items.ensures ∙ none) in
    subst (λ v. IsBlockForm (is_sourced v) block) (sym c.requires.1.written.version_is)
    (block_form block some c.in_ok-block.ensures.form.0 c.in_ok-block.ensures.form.1)

pub returns-clause-written : goal.returns-clause-written
returns-clause-written g c = on_ok c.put.result c.put.ensures.put (λ put ways up has.
    let M = c.args.builder.now.world in
    let P = g.P.Profile.rules c.args.builder.now.profile in
    let one : OneBlock M P = subst (λ (p : g.row.P.Denot). OneBlock M (g.P.Profile.rules p)) c.profile.ensures
    (c.one_block.ensures M) in
    let block = c.in_ok-block.block in
    let is = c.in_ok-block.ensures.block in
    let test = some_by_test c.items.result.now c.is_empty.result c.is_empty.ensures c.if-is_empty.false in
    let some : block.pieces ≡ [] → ⊥ = λ none. test (c.items.ensures ∙ none) in
    let own = subst (λ w. IsBlock M P w block) (sym is.way) is in
    let road : IsRoadBlock M P block = record { block = own; some = some } in
    let above = subst (λ (w : WayId). IsTrue (rises way_cmp (ways ++ w ∷ []))) (sym is.way) up in
    subst (λ (w : WayId). HasBlocksOf M P (ways ++ w ∷ []) c.put.new.self) is.way
    (one_more M P c.name_order.ensures.ways one ways block
    c.args.writer.now c.put.new.self above has road (put 2 P.number)))
