use Rattle.std.proofs.Common.{[], sym, subst}
use Rattle.std.specs.FinMap.{find}
use Rattle.road_base.specs.Objects.{Objects}
use Rattle.road_model.specs.Orders.{way_cmp}
use Rattle.road_model.specs.Links.{AreTouched}
use Rattle.touched_ways.specs.Altering.{IsNearChange}
use Rattle.ordered_lists.specs.Orders.{Lists}
use Rattle.change_apply.specs.Engines.{AreKept}
use Rattle.layered_maps.specs.Maps.{changed_by}
use Rattle.graph_blocks.specs.Lent.{map_of}
use Rattle.change_apply.specs.Rebuilding.{block_at, over, way_of}
use Rattle.change_apply.proofs.RebuiltBlocks.{kept_as}
use Rattle.change_apply.proofs.engine.rebuild_after.Goals as goal

pub rebuild_around-requires-clause-close : goal.rebuild_around-requires-clause-close
rebuild_around-requires-clause-close g c =
    let close = c.in_ok-close.close in
    subst (λ (x : Objects). Lists (λ w. w) way_cmp (IsNearChange c.args.network.now.world.now x) close)
    (sym c.of-next.ensures)
    (subst (λ (x : Objects). Lists (λ w. w) way_cmp (IsNearChange x c.args.prepared.now.after) close)
    c.requires.before c.in_ok-close.ensures)

pub returns-in_err-rebuilt-clause-few : goal.returns-in_err-rebuilt-clause-few
returns-in_err-rebuilt-clause-few g c ways touched =
    c.rebuild_around.ensures.few ways
    (subst (λ (x : Objects). AreTouched c.args.network.now.world.now x ways) (sym c.of-next.ensures) touched)

pub returns-in_err-changes-clause-few : goal.returns-in_err-changes-clause-few
returns-in_err-changes-clause-few g c ways touched =
    c.rebuild_around.ensures.few ways
    (subst (λ (x : Objects). AreTouched c.args.network.now.world.now x ways) (sym c.of-next.ensures) touched)

pub returns-clause-few : goal.returns-clause-few
returns-clause-few g c ways touched =
    c.rebuild_around.ensures.few ways
    (subst (λ (x : Objects). AreTouched c.args.network.now.world.now x ways) (sym c.of-next.ensures) touched)

pub returns-clause-kept : goal.returns-clause-kept
returns-clause-kept g c =
    let P = g.P.Profile.rules c.args.network.now.profile in
    let changes = c.in_ok-changes.changes in
    let rebuilt = c.in_ok-rebuilt.rebuilt in
    let at = block_at (over rebuilt.later.map (over rebuilt.near.map [])) (map_of c.args.blocks.now) in
    kept_as c.args.prepared.now.after P at
    (λ w. find way_cmp w (changed_by way_of way_cmp changes.later.items
    (changed_by way_of way_cmp changes.near.items c.args.blocks.now)))
    c.in_ok-changes.ensures.leaves
    (subst (λ (x : Objects). AreKept x P at) c.of-next.ensures c.in_ok-rebuilt.ensures.kept)
