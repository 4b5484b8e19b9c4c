use Rattle.std.proofs.Common.{◌≡◌, List, ap, sym, subst, ◌∙◌}
use Rattle.std.specs.FinMap.{find, get, get-from_entries}
use Rattle.road_base.specs.declared.ids.WayId.{WayId}
use Rattle.road_base.specs.Objects.{Objects}
use Rattle.road_model.specs.declared.blocks.Block.{Block}
use Rattle.road_model.specs.Orders.{way_cmp}
use Rattle.road_base.specs.Applying.{IsApplied}
use Rattle.road_model.specs.Links.{AreTouched}
use Rattle.layered_maps.specs.Maps.{changed_by}
use Rattle.graph_blocks.specs.Lent.{map_of}
use Rattle.change_apply.specs.Engines.{AreKept}
use Rattle.change_apply.specs.Rebuilding.{way_of}
use Rattle.change_apply.proofs.EngineChanges.{at_err, builds, no_ok, no_value}
use Rattle.change_apply.proofs.RebuiltBlocks.{kept_as}
use Rattle.change_apply.proofs.engine.Engine.follow.Goals as goal

pub returns-in_err-changes-clause-applied : goal.returns-in_err-changes-clause-applied
returns-in_err-changes-clause-applied g c =
    no_ok _ c.from_residual-in_err-changes.result c.from_residual-in_err-changes.ensures.0

pub returns-in_err-changes-clause-err : goal.returns-in_err-changes-clause-err
returns-in_err-changes-clause-err g c =
    at_err c.from_residual-in_err-changes.result (subst
    (λ (M : Objects). record { profile = c.self.inside.profile; world = M } ≡ c.args.self.now)
    (sym c.prepare.ensures.same) c.self.view_is)

pub returns-in_err-changes-clause-rebuilt : goal.returns-in_err-changes-clause-rebuilt
returns-in_err-changes-clause-rebuilt g c =
    no_value _ c.from_residual-in_err-changes.result c.from_residual-in_err-changes.ensures.0

pub returns-in_err-changes-clause-built : goal.returns-in_err-changes-clause-built
returns-in_err-changes-clause-built g c =
    let events = c.args.events.now in
    let after = c.in_ok-prepared.prepared.after in
    let M = c.args.self.now.world in
    let here : c.self.inside.world ≡ M = ap (λ f. f.world) c.self.view_is in
    let applied = subst (λ (x : Objects). IsApplied x events after) here c.in_ok-prepared.ensures.after in
    let world : c.new-network.result.world.now ≡ M = c.new-network.ensures.world ∙ c.prepare.ensures.same ∙ here in
    let touched = c.some_touched_ways.ensures M after in
    builds M after events touched.0 c.args.steps.now c.rebuild_after.new.steps applied touched.1
    (c.rebuild_after.ensures.few touched.0
    (subst (λ (x : Objects). AreTouched x after touched.0) (sym world) touched.1))

pub returns-in_err-exchange-clause-applied : goal.returns-in_err-exchange-clause-applied
returns-in_err-exchange-clause-applied g c =
    no_ok _ c.from_residual-in_err-exchange.result c.from_residual-in_err-exchange.ensures.0

pub returns-in_err-exchange-clause-err : goal.returns-in_err-exchange-clause-err
returns-in_err-exchange-clause-err g c =
    at_err c.from_residual-in_err-exchange.result (subst
    (λ (M : Objects). record { profile = c.self.inside.profile; world = M } ≡ c.args.self.now)
    (sym c.prepare.ensures.same) c.self.view_is)

pub returns-in_err-exchange-clause-rebuilt : goal.returns-in_err-exchange-clause-rebuilt
returns-in_err-exchange-clause-rebuilt g c =
    no_value _ c.from_residual-in_err-exchange.result c.from_residual-in_err-exchange.ensures.0

pub returns-in_err-exchange-clause-built : goal.returns-in_err-exchange-clause-built
returns-in_err-exchange-clause-built g c =
    let events = c.args.events.now in
    let after = c.in_ok-prepared.prepared.after in
    let M = c.args.self.now.world in
    let here : c.self.inside.world ≡ M = ap (λ f. f.world) c.self.view_is in
    let applied = subst (λ (x : Objects). IsApplied x events after) here c.in_ok-prepared.ensures.after in
    let world : c.new-network.result.world.now ≡ M = c.new-network.ensures.world ∙ c.prepare.ensures.same ∙ here in
    let touched = c.some_touched_ways.ensures M after in
    builds M after events touched.0 c.args.steps.now c.rebuild_after.new.steps applied touched.1
    (c.rebuild_after.ensures.few touched.0
    (subst (λ (x : Objects). AreTouched x after touched.0) (sym world) touched.1))

pub invariant_of-self-in_err-changes : goal.invariant_of-self-in_err-changes
invariant_of-self-in_err-changes g c =
    let P = g.P.Profile.rules c.self.inside.profile in
    subst (λ (M : Objects). AreKept M P (get (map_of c.self.inside.blocks))) (sym c.prepare.ensures.same)
    c.self.invariant

pub invariant_of-self-in_err-exchange : goal.invariant_of-self-in_err-exchange
invariant_of-self-in_err-exchange g c =
    let P = g.P.Profile.rules c.self.inside.profile in
    subst (λ (l : List (WayId × Block)). AreKept c.prepare.new.self P (get (map_of l)))
    (sym c.prepare_both.ensures.same)
    (subst (λ (M : Objects). AreKept M P (get (map_of c.self.inside.blocks))) (sym c.prepare.ensures.same)
    c.self.invariant)

pub invariant_of-self-2 : goal.invariant_of-self-2
invariant_of-self-2 g c =
    let P = g.P.Profile.rules c.self.inside.profile in
    let changes = c.in_ok-changes.changes in
    let after = changed_by way_of way_cmp changes.later.items
    (changed_by way_of way_cmp changes.near.items c.self.inside.blocks) in
    let is : c.commit-2.new.self ≡ after = c.commit-2.ensures ∙ c.in_ok-exchange.ensures.after in
    let kept = subst (λ p. AreKept c.in_ok-prepared.prepared.after (g.P.Profile.rules p) (λ w. find way_cmp w after))
    c.new-network.ensures.profile c.in_ok-changes.ensures.kept in
    subst (λ (M : Objects). AreKept M P (get (map_of c.commit-2.new.self))) (sym c.commit.ensures)
    (kept_as c.in_ok-prepared.prepared.after P (λ w. find way_cmp w after) (get (map_of c.commit-2.new.self))
    (λ w. get-from_entries c.name_order.ensures.ways c.commit-2.new.self w ∙ ap (find way_cmp w) is)
    kept)

pub returns-clause-built : goal.returns-clause-built
returns-clause-built g c =
    let events = c.args.events.now in
    let after = c.in_ok-prepared.prepared.after in
    let M = c.args.self.now.world in
    let here : c.self.inside.world ≡ M = ap (λ f. f.world) c.self.view_is in
    let applied = subst (λ (x : Objects). IsApplied x events after) here c.in_ok-prepared.ensures.after in
    let world : c.new-network.result.world.now ≡ M = c.new-network.ensures.world ∙ c.prepare.ensures.same ∙ here in
    let touched = c.some_touched_ways.ensures M after in
    builds M after events touched.0 c.args.steps.now c.rebuild_after.new.steps applied touched.1
    (c.rebuild_after.ensures.few touched.0
    (subst (λ (x : Objects). AreTouched x after touched.0) (sym world) touched.1))
