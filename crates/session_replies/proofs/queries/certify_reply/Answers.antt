use Rattle.std.proofs.Common.{sym, subst}
use Rattle.std.proofs.lemmas.Result.{IfOk-weaker}
use Rattle.road_base.specs.Objects.{Objects}
use Rattle.road_model.specs.BlockMap.{AreBlocksOf}
use Rattle.graph_blocks.specs.Lent.{map_of}
use Rattle.least_cost.specs.Cheapest.{IsCheapest}
use Rattle.session_replies.proofs.queries.certify_reply.Goals as goal

pub least-requires : goal.least-requires
least-requires g c =
    let R = g.P.Profile.rules in
    let m = map_of c.blocks-2.result.now in
    subst (λ (M : Objects). AreBlocksOf M (R c.profile.result) m) (sym c.world.ensures)
    (subst (λ p. AreBlocksOf c.args.engine.now.world (R p) m) (sym c.profile.ensures) c.blocks-2.ensures.blocks)

pub returns : goal.returns
returns g c =
    let R = g.P.Profile.rules in
    let found = c.in_ok-found.found in
    let is =
    subst (λ p. IsCheapest c.args.engine.now.world (R p) c.args.a c.args.b found) c.profile.ensures
    (subst (λ (M : Objects). IsCheapest M (R c.profile.result) c.args.a c.args.b found) c.world.ensures
    c.in_ok-found.ensures)
    in
    IfOk-weaker c.cheapest_reply.result _ _ (λ r said. (found, is, said)) c.cheapest_reply.ensures
