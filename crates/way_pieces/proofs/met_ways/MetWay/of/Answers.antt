-- The block that is known lists the pieces of the way.
use Rattle.std.proofs.Common.{option_copied, sym, ap, subst, ◌∙◌}
use Rattle.road_base.specs.declared.ids.WayId.{WayId}
use Rattle.road_model.specs.Blocks.{ListsPieces}
use Rattle.way_pieces.proofs.met_ways.MetWay.of.Goals as goal

pub road_of-requires : goal.road_of-requires
road_of-requires g c =
    c.requires.known c.args.way c.in-Some.block.now (sym c.known.ensures ∙ ap option_copied c.in-Some.is)

pub returns-in-Some-clause-is : goal.returns-in-Some-clause-is
returns-in-Some-clause-is g c =
    let M = g.M.World.objects c.args.network.now.world.now in
    let P = g.P.Profile.rules c.args.network.now.profile in
    let b = c.in-Some.block.now in
    let lists = c.requires.known c.args.way b (sym c.known.ensures ∙ ap option_copied c.in-Some.is) in
    record {
      road = c.road_of.ensures.directions;
      source = subst (λ (w : WayId). ListsPieces M P w b) (sym c.road_of.ensures.way) lists;
    }
