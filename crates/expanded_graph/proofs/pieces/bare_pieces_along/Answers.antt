-- One piece more was written.
use Rattle.std.proofs.Common.{[], ◌∷◌, ◌++◌, true}
use Rattle.std.proofs.lemmas.List.Elements.{All-push, All-same}
use Rattle.road_model.specs.Format.{IsPieceForm}
use Rattle.expanded_graph.specs.Bare.{IsBarePiece}
use Rattle.expanded_graph.proofs.WrittenPieces.{names_more}
use Rattle.expanded_graph.proofs.pieces.bare_pieces_along.Goals as goal

pub loop-span-preserved : goal.loop-span-preserved
loop-span-preserved g c =
    let Is = IsBarePiece (g.M.World.objects c.args.network.now.world.now)
    (g.P.Profile.rules c.args.network.now.profile) c.args.line.now.road.way in
    let so_far = c.loop-span.pieces.items in
    let piece = c.in_ok-piece.piece in
    let grown = c.in_ok-push.ensures.items in
    record {
      names = names_more so_far c.push.new.self.items piece c.args.spans.now c.loop-span.span-index _
          c.loop-span-test.true grown c.in_ok-piece.ensures.name c.loop-span.invariant.names;
      entries = All-same Is c.push.new.self.items (so_far ++ piece ∷ []) grown
          (All-push Is so_far piece c.loop-span.invariant.entries c.in_ok-piece.ensures.entry);
      forms = All-same (IsPieceForm true) c.push.new.self.items (so_far ++ piece ∷ []) grown
          (All-push (IsPieceForm true) so_far piece c.loop-span.invariant.forms c.in_ok-piece.ensures.form);
    }
