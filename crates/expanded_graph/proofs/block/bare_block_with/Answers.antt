-- The line that was kept or read is that of the way, which is a road where it has pieces.
use Rattle.std.proofs.Common.{◌≡◌, List, [], length, map, refl, sym, ap, ◌∙◌, subst, IsTrue, IfOk, Contains}
use Rattle.std.proofs.lemmas.Bool.{eqb-true, eqb-false}
use Rattle.std.proofs.lemmas.List.{nil_from_length}
use Rattle.std.proofs.lemmas.List.Elements.{All-nil}
use Rattle.road_base.specs.declared.ids.WayId.{WayId}
use Rattle.road_base.specs.Objects.{Objects}
use Rattle.road_model.specs.Rules.{Rules}
use Rattle.road_model.specs.Lines.{line_of}
use Rattle.road_model.specs.Driving.{is_road}
use Rattle.way_lines.specs.declared.road_line.RoadLine.{RoadLine}
use Rattle.way_lines.specs.RoadLines.{IsRoadLine, line_node}
use Rattle.way_pieces.specs.declared.spans.PieceSpan.{PieceSpan}
use Rattle.way_pieces.specs.RoadPieces.{AreSpans}
use Rattle.expanded_graph.specs.Bare.{IsBarePiece, IsBareBlock}
use Rattle.expanded_graph.proofs.BarePieces.{is_bare_block}
use Rattle.expanded_graph.proofs.WrittenPieces.{is_road_by}
use Rattle.expanded_graph.proofs.block.bare_block_with.Goals as goal

-- the nodes of the line of a way with pieces
on_line : (M : Objects) (P : Rules) (w : WayId) (l : RoadLine) (spans : List PieceSpan) → IsRoadLine M P l
    → l.road.way ≡ w → AreSpans M P w spans → (spans ≡ [] → ⊥)
    → l.nodes.items ≡ map (line_node M P) (line_of M l.road.way)
on_line M P w l spans is same on some =
    is.line (subst (λ v. IsTrue (is_road M P v)) (sym same) (is_road_by M P w spans on some))

pub returns-then-is_empty-clause-block : goal.returns-then-is_empty-clause-block
returns-then-is_empty-clause-block g c =
    let M = g.M.World.objects c.args.network.now.world.now in
    let P = g.P.Profile.rules c.args.network.now.profile in
    let w = c.args.way in
    let none : c.args.spans.now ≡ [] =
    nil_from_length _ (eqb-true _ _ (sym c.is_empty.ensures ∙ c.if-is_empty.true)) in
    let on = subst (λ (l : List PieceSpan). AreSpans M P w l) none c.requires.spans in
    is_bare_block M P w [] on [] refl (All-nil (IsBarePiece M P w)) _
    (ap (λ b. b.way) c.empty_block.ensures) (ap (λ b. b.pieces) c.empty_block.ensures)

pub bare_block_along-requires-clause-serve : goal.bare_block_along-requires-clause-serve
bare_block_along-requires-clause-serve g c =
    let M = g.M.World.objects c.args.network.now.world.now in
    let P = g.P.Profile.rules c.args.network.now.profile in
    subst (Contains c.args.tables.now.watched.ways.items) (sym (c.in-Some.ensures M P c.requires.tables.pieces).of)
    c.requires.serve

pub bare_block_along-requires-clause-line : goal.bare_block_along-requires-clause-line
bare_block_along-requires-clause-line g c =
    let M = g.M.World.objects c.args.network.now.world.now in
    let P = g.P.Profile.rules c.args.network.now.profile in
    let own = c.in-Some.ensures M P c.requires.tables.pieces in
    on_line M P c.args.way c.in-Some.line.now c.args.spans.now own.line own.of c.requires.spans
    (λ none. eqb-false _ _ (sym c.is_empty.ensures ∙ c.if-is_empty.false) (ap length none))

pub bare_block_along-requires-clause-short : goal.bare_block_along-requires-clause-short
bare_block_along-requires-clause-short g c =
    let M = g.M.World.objects c.args.network.now.world.now in
    let P = g.P.Profile.rules c.args.network.now.profile in
    (c.in-Some.ensures M P c.requires.tables.pieces).short

pub bare_block_along-requires-clause-spans : goal.bare_block_along-requires-clause-spans
bare_block_along-requires-clause-spans g c =
    let M = g.M.World.objects c.args.network.now.world.now in
    let P = g.P.Profile.rules c.args.network.now.profile in
    subst (λ (w : WayId). AreSpans M P w c.args.spans.now)
    (sym (c.in-Some.ensures M P c.requires.tables.pieces).of) c.requires.spans

pub returns-in-Some-clause-block : goal.returns-in-Some-clause-block
returns-in-Some-clause-block g c =
    let M = g.M.World.objects c.args.network.now.world.now in
    let P = g.P.Profile.rules c.args.network.now.profile in
    subst (λ (w : WayId). IfOk c.bare_block_along.result (IsBareBlock M P w))
    (c.in-Some.ensures M P c.requires.tables.pieces).of c.bare_block_along.ensures.block

pub bare_block_along-requires-2-clause-line : goal.bare_block_along-requires-2-clause-line
bare_block_along-requires-2-clause-line g c =
    let M = g.M.World.objects c.args.network.now.world.now in
    let P = g.P.Profile.rules c.args.network.now.profile in
    let l = c.in_ok-line.line in
    let same : l.road.way ≡ c.args.way = ap (λ r. r.way) c.in_ok-line.ensures.road ∙ c.road-road.ensures.way in
    on_line M P c.args.way l c.args.spans.now c.in_ok-line.ensures.line same c.requires.spans
    (λ none. eqb-false _ _ (sym c.is_empty.ensures ∙ c.if-is_empty.false) (ap length none))
