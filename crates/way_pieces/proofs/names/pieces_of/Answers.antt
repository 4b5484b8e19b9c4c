-- The names of the spans are those of the pieces.
use Rattle.std.proofs.Common.{List, map, refl, ap, ◌∙◌}
use Rattle.road_model.specs.Orders.{name_cmp}
use Rattle.way_pieces.specs.declared.spans.PieceSpan.{PieceSpan}
use Rattle.way_pieces.specs.Names.{piece_of, IsNameOn, IsSpanOn}
use Rattle.way_pieces.proofs.SpanOrder.{span_of}
use Rattle.ordered_lists.proofs.JoinedLists.{lists_names}
use Rattle.way_pieces.proofs.names.pieces_of.Goals as goal

pub returns : goal.returns
returns g c =
    let M = g.M.World.objects c.args.world.now in
    let P = g.P.Profile.rules c.args.profile.now in
    let w = c.args.way in
    lists_names (λ (z : PieceSpan). z.name) name_cmp (IsSpanOn M P w) (IsNameOn M P w) c.in_ok-spans.spans.items _
    (c.from_list.ensures
    ∙ (c.in_ok-names.ensures ∙ ap (λ (l : List PieceSpan). map (λ s. s.name) l) c.as_slice.ensures.value))
    c.in_ok-spans.ensures
    (λ z on. record { piece = piece_of z; is = on.is; named = refl; of = on.of })
    (λ n is. (span_of is.piece, (record { of = is.of; is = is.is }, is.named)))
