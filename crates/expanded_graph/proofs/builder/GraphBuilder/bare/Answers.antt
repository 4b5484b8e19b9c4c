-- The network is made of this world and this profile.
use Rattle.std.proofs.Common.{sym, subst}
use Rattle.road_model.specs.Blocks.{ListsPieces}
use Rattle.expanded_graph.proofs.builder.GraphBuilder.bare.Goals as goal

pub bare-requires : goal.bare-requires
bare-requires g c =
    let M = g.M.World.objects c.args.world.now in
    let network = c.new-network in
    record {
      known = λ w b known.
          subst (λ world. ListsPieces (g.M.World.objects world) (g.P.Profile.rules network.result.profile) w b)
          (sym network.ensures.world)
          (subst (λ profile. ListsPieces M (g.P.Profile.rules profile) w b) (sym network.ensures.profile)
          (c.requires.known w b known));
    }
