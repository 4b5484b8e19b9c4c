-- Blocks list the pieces of their ways, also behind a change that is far from the way.
use Rattle.std.proofs.Common.{◌≡◌, inl, sym, ◌∙◌, subst, Contains}
use Rattle.road_base.specs.declared.ids.WayId.{WayId}
use Rattle.road_base.specs.declared.ids.Key.TheVariants.{Way as WayKey}
use Rattle.road_base.specs.Objects.{Objects, way_of}
use Rattle.road_model.specs.declared.lists.Piece.{Piece}
use Rattle.road_model.specs.declared.blocks.Block.{Block}
use Rattle.road_model.specs.Rules.{Rules}
use Rattle.road_model.specs.Pieces.{Span, IsPiece}
use Rattle.road_model.specs.Local.{IsSameWithin}
use Rattle.road_model.specs.Blocks.{IsPieceEntry, IsBlock, IsListedPiece, ListsPieces, name_of, place_position}
use Rattle.road_model.proofs.FinitePieces.{IsOf}
use Rattle.road_model.proofs.SomeGraph.{piece_entry, entry_named}
use Rattle.road_model.proofs.LocalLinks.{IsAlike, alike_from, way_same, within_itself}
use Rattle.road_model.proofs.LocalBodies.{at_same}
use Rattle.road_model.proofs.LocalPieces.{NeedsHighway}
use Rattle.touched_ways.specs.Altering.{HasSamePieces}
use Rattle.touched_ways.proofs.SamePieces.{far_pieces}

module _ (M : Objects) (P : Rules) (w : WayId) where
  -- an entry names its piece and has its nodes
  listed_piece : (e : Piece) → IsPieceEntry M P w e → IsListedPiece M P w e
  listed_piece e k = record {
    piece = k.piece;
    is = k.is;
    of = k.of;
    named = k.named;
    end_is = k.end_is;
    count = k.count;
    nodes = λ i x at. (k.places i x at).node;
  }

  -- the block of a way lists its pieces
  pub block_lists : (b : Block) → IsBlock M P w b → ListsPieces M P w b
  block_lists b is = record {
    way = is.way;
    ascending = is.pieces.ascending;
    sound = λ e has. listed_piece e (is.pieces.sound e has);
    complete = complete;
  }
    where
      complete : (p : Span) → IsPiece M P p → p.way ≡ w → (e : Piece) × Contains b.pieces e × (e.name ≡ name_of p)
      complete p h of =
          let place : IsOf M P w p = record { is = h; way = of } in
          let e = piece_entry M P w p place in
          (e.0, is.pieces.complete e.0 e.1, entry_named M P w p place)

module _ (M N : Objects) (P : Rules) (w : WayId) where
  -- where the way's body and its pieces are the same, so is what is listed
  kept_piece : way_of M w ≡ way_of N w → HasSamePieces M N P w → (e : Piece) → IsListedPiece M P w e
      → IsListedPiece N P w e
  kept_piece body same e k =
      let own : way_of M k.piece.way ≡ way_of N k.piece.way =
      subst (λ v. way_of M v ≡ way_of N v) (sym k.of) body in record {
        piece = k.piece;
        is = (same k.piece k.of).0 k.is;
        of = k.of;
        named = k.named;
        end_is = k.end_is;
        count = k.count;
        nodes = λ i x at. sym (at_same M N k.piece.way (place_position k.piece i) own) ∙ k.nodes i x at;
      }

  kept_list : way_of M w ≡ way_of N w → HasSamePieces M N P w → (b : Block) → ListsPieces M P w b
      → ListsPieces N P w b
  kept_list body same b lists = record {
    way = lists.way;
    ascending = lists.ascending;
    sound = λ e has. kept_piece body same e (lists.sound e has);
    complete = λ p is of. lists.complete p ((same p of).1 is) of;
  }

  -- where nothing within two links of the way differs, its block lists its pieces behind the change too
  pub far_block_lists : NeedsHighway P → (b : Block) → IsSameWithin 2 M N w → IsBlock M P w b → ListsPieces N P w b
  far_block_lists needs b far is =
      let near : IsAlike M N 2 (WayKey w) = alike_from M N 2 w far in
      let body = way_same M N w (near (WayKey w) (inl (within_itself M 2 (WayKey w)))) in
      kept_list body (far_pieces M N P needs w far) b (block_lists M P w b is)
