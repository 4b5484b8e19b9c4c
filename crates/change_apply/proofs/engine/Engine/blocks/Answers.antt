use Rattle.std.proofs.Common.{subst}
use Rattle.std.specs.FinMap.{get}
use Rattle.graph_blocks.specs.Lent.{map_of, AreAtTheirWays}
use Rattle.change_apply.specs.Engines.{AreKept}
use Rattle.change_apply.proofs.BuiltBlocks.{listed_blocks, listed_forms}
use Rattle.change_apply.proofs.engine.Engine.blocks.Goals as goal

pub returns : goal.returns
returns g c =
    let M = c.args.self.now.world in
    let P = g.P.Profile.rules c.args.self.now.profile in
    let m = map_of c.self.inside.blocks in
    let kept = subst (λ f. AreKept f.world (g.P.Profile.rules f.profile) (get m)) c.self.view_is c.self.invariant in
    let at : AreAtTheirWays m = λ w b got. ((kept.blocks w b).0 got).0 in
    let each = c.values_in_order.ensures.each m at in
    record {
      blocks = kept.blocks;
      listed = listed_blocks M P m (c.values_in_order.ensures.ascending m at) each kept.blocks;
      forms = listed_forms m each kept.forms;
    }
