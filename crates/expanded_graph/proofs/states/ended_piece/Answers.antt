-- The spans are all pieces of the step's way.
use Rattle.std.proofs.Common.{List, sym, subst}
use Rattle.way_pieces.specs.declared.spans.PieceSpan.{PieceSpan}
use Rattle.way_pieces.specs.RoadPieces.{AreSpans}
use Rattle.expanded_graph.proofs.LastSteps.{spans_ascend}
use Rattle.expanded_graph.proofs.states.ended_piece.Goals as goal

pub piece_ended_by-requires : goal.piece_ended_by-requires
piece_ended_by-requires g c =
    let M = g.M.World.objects c.args.network.now.world.now in
    let P = g.P.Profile.rules c.args.network.now.profile in
    spans_ascend M P c.args.step.way c.in-Some.spans.now (c.in-Some.ensures M P c.requires.pieces)

pub returns-in-Some : goal.returns-in-Some
returns-in-Some g c =
    let M = g.M.World.objects c.args.network.now.world.now in
    let P = g.P.Profile.rules c.args.network.now.profile in
    c.piece_ended_by.ensures M P (c.in-Some.ensures M P c.requires.pieces)

pub piece_ended_by-requires-in-Some-spans_of : goal.piece_ended_by-requires-in-Some-spans_of
piece_ended_by-requires-in-Some-spans_of g c =
    let M = g.M.World.objects c.args.network.now.world.now in
    let P = g.P.Profile.rules c.args.network.now.profile in
    spans_ascend M P c.args.step.way c.in-Some-spans_of.spans.now (c.in-Some-spans_of.ensures M P c.requires.further)

pub returns-in-Some-spans_of : goal.returns-in-Some-spans_of
returns-in-Some-spans_of g c =
    let M = g.M.World.objects c.args.network.now.world.now in
    let P = g.P.Profile.rules c.args.network.now.profile in
    c.piece_ended_by-in-Some-spans_of.ensures M P (c.in-Some-spans_of.ensures M P c.requires.further)

pub piece_ended_by-requires-2 : goal.piece_ended_by-requires-2
piece_ended_by-requires-2 g c =
    let M = g.M.World.objects c.args.network.now.world.now in
    let P = g.P.Profile.rules c.args.network.now.profile in
    let w = c.road.result.way in
    let are = subst (λ (l : List PieceSpan). AreSpans M P w l) (sym c.as_slice.ensures.value)
    c.in_ok-own.ensures.spans in
    spans_ascend M P w c.as_slice.result.now are

pub returns : goal.returns
returns g c =
    let M = g.M.World.objects c.args.network.now.world.now in
    let P = g.P.Profile.rules c.args.network.now.profile in
    let w = c.road.result.way in
    let are = subst (λ (l : List PieceSpan). AreSpans M P w l) (sym c.as_slice.ensures.value)
    c.in_ok-own.ensures.spans in
    c.piece_ended_by-2.ensures M P (subst (λ v. AreSpans M P v c.as_slice.result.now) c.road.ensures.way are)
