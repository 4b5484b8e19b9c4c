-- Where the pieces of the way start has the departures over it.
use Rattle.std.proofs.Common.{ap, subst, ◌∙◌}
use Rattle.std.specs.List.{filter}
use Rattle.std.proofs.lemmas.Result.{on_ok_weaker}
use Rattle.road_base.specs.declared.ids.WayId.{WayId}
use Rattle.road_model.specs.Lines.{same_node}
use Rattle.way_pieces.specs.Departures.{IsOver}
use Rattle.way_pieces.specs.RoadPieces.{AreStarts}
use Rattle.way_pieces.proofs.AtNodes.{gained}
use Rattle.way_pieces.proofs.road_pieces.RoadPieces.add_over.Goals as goal

pub standing_at-requires : goal.standing_at-requires
standing_at-requires g c =
    let M = g.M.World.objects c.args.network.now.world.now in
    let P = g.P.Profile.rules c.args.network.now.profile in
    (c.in-Some.ensures M P c.requires).ascending

pub returns-in-Some : goal.returns-in-Some
returns-in-Some g c =
    let M = g.M.World.objects c.args.network.now.world.now in
    let P = g.P.Profile.rules c.args.network.now.profile in
    on_ok_weaker c.add_items.result
    (λ added. gained (λ d. d.piece) (λ v. IsOver M P v c.args.way) c.args.node c.in-Some.starts.now
    c.standing_at.result.now
    c.args.departures.now.items c.add_items.new.list.items (c.in-Some.ensures M P c.requires)
    c.standing_at.ensures added) c.add_items.ensures

pub returns : goal.returns
returns g c =
    let M = g.M.World.objects c.args.network.now.world.now in
    let P = g.P.Profile.rules c.args.network.now.profile in
    let own = c.in_ok-own.own.starts.items in
    let are : AreStarts M P c.args.way own = subst (λ (w : WayId). AreStarts M P w own) c.road.ensures.way
    c.in_ok-own.ensures.starts in
    on_ok_weaker c.add_items-2.result
    (λ added. gained (λ d. d.piece) (λ v. IsOver M P v c.args.way) c.args.node own c.standing_at-2.result.now
    c.args.departures.now.items c.add_items-2.new.list.items are
    (c.standing_at-2.ensures ∙ ap (filter (λ s. same_node s.node c.args.node)) c.as_slice.ensures.value) added)
    c.add_items-2.ensures
