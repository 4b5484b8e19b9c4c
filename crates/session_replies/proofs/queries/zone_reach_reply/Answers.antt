use Rattle.std.proofs.Common.{sym, subst, ◌∙◌}
use Rattle.road_base.specs.Objects.{Objects}
use Rattle.road_model.specs.BlockMap.{AreBlocksOf}
use Rattle.graph_blocks.specs.Lent.{map_of}
use Rattle.destination_drives.specs.ZoneReaching.{IsZoneFound}
use Rattle.session_replies.proofs.queries.zone_reach_reply.Goals as goal

pub zone_reach-requires : goal.zone_reach-requires
zone_reach-requires g c =
    let R = g.P.Profile.rules in
    let m = map_of c.blocks-2.result.now in
    subst (λ (M : Objects). AreBlocksOf M (R c.profile.result) m) (sym c.world.ensures)
    (subst (λ p. AreBlocksOf c.args.engine.now.world (R p) m) (sym c.profile.ensures) c.blocks-2.ensures.blocks)

pub returns : goal.returns
returns g c =
    let R = g.P.Profile.rules in
    let found = c.in_ok-found.found in
    let is =
    subst (λ p. IsZoneFound c.args.engine.now.world (R p) c.args.a c.args.b found) c.profile.ensures
    (subst (λ (M : Objects). IsZoneFound M (R c.profile.result) c.args.a c.args.b found) c.world.ensures
    c.in_ok-found.ensures)
    in
    (found, is, c.line_alone.ensures ∙ c.in_ok-found_reply.ensures)
