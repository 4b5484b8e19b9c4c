-- The arc leads to the piece alone.
use Rattle.std.proofs.Common.{◌≡◌, subst}
use Rattle.std.proofs.lemmas.Bool.{eqb-true}
use Rattle.road_model.specs.Blocks.{IsArcEntry}
use Rattle.expanded_graph.proofs.arcs.is_free.Goals as goal

pub returns-in-Some : goal.returns-in-Some
returns-in-Some g c = λ one u b follow reached.
    let M = g.M.World.objects c.args.network.now.world.now in
    let P = g.P.Profile.rules c.args.network.now.profile in
    let named = c.in-Some.ensures.named in
    let alone : c.in-Some.arc.length ≡ 1 = eqb-true _ _ one in
    let same : c.in-Some.arc ≡ record { piece = c.args.departure.piece; length = 1 } =
    λ k. record { piece = named k; length = alone k } in
    subst (IsArcEntry M P b) same (c.in-Some.ensures.arc u b follow reached)
