-- When a way has the same pieces before and after a change: where nothing near it differs, and where its blocks list
-- the same ones.
use Rattle.std.proofs.Common.{◌≡◌, ℕ, sym, ap, ◌∙◌, subst, Contains}
use Rattle.road_base.specs.declared.ids.WayId.{WayId}
use Rattle.road_base.specs.declared.ids.Key.TheVariants.{Way as WayKey}
use Rattle.road_base.specs.Objects.{Objects}
use Rattle.road_model.specs.declared.lists.PieceName.{PieceName}
use Rattle.road_model.specs.declared.lists.Piece.{Piece}
use Rattle.road_model.specs.declared.blocks.Block.{Block}
use Rattle.road_model.specs.Rules.{Rules}
use Rattle.road_model.specs.Pieces.{Span, IsPiece}
use Rattle.road_model.specs.Local.{IsSameWithin}
use Rattle.road_model.specs.Blocks.{IsPieceEntry, IsBlock, name_of}
use Rattle.ordered_lists.proofs.ListMembers.{contains_map, contains_from_map}
use Rattle.road_model.proofs.UniqueEntries.{one_piece}
use Rattle.road_model.proofs.FinitePieces.{IsOf}
use Rattle.road_model.proofs.SomeGraph.{piece_entry, entry_named}
use Rattle.road_model.proofs.LocalLinks.{IsAlike, alike_from, alike_turned}
use Rattle.road_model.proofs.LocalPieces.{NeedsHighway, piece_kept}
use Rattle.touched_ways.specs.Altering.{HasSamePieces, listed_pieces}

-- ---- where all within two links is the same

pub alike_pieces : (M N : Objects) (P : Rules) → NeedsHighway P → (w : WayId) → IsAlike M N 2 (WayKey w)
    → HasSamePieces M N P w
alike_pieces M N P needs w near p of =
    let al : IsAlike M N 2 (WayKey p.way) = subst (λ v. IsAlike M N 2 (WayKey v)) (sym of) near in
    (piece_kept M N P needs p al, piece_kept N M P needs p (alike_turned M N 2 (WayKey p.way) al))

pub far_pieces : (M N : Objects) (P : Rules) → NeedsHighway P → (w : WayId) → IsSameWithin 2 M N w
    → HasSamePieces M N P w
far_pieces M N P needs w same = alike_pieces M N P needs w (alike_from M N 2 w same)

-- ---- where the blocks list the same pieces

-- a piece's name and end, as a block lists them
abbrev listed_as : Piece → PieceName × ℕ
listed_as e = (e.name, e.end)

-- the entry of a piece has its end
entry_end : (M : Objects) (P : Rules) (w : WayId) (e : Piece) (k : IsPieceEntry M P w e) (p : Span) → IsPiece M P p
    → e.name ≡ name_of p → e.end ≡ p.end
entry_end M P w e k p h named = k.end_is
    ∙ ap (λ q. q.end) (one_piece M P k.piece p k.is h (sym k.named ∙ named))

-- the name and end tell which piece it is
same_span : (q p : Span) → name_of q ≡ name_of p → q.end ≡ p.end → q ≡ p
same_span q p named end =
    let way : q.way ≡ p.way = ap (λ n. n.way) named in
    let index : q.index ≡ p.index = ap (λ n. n.index) named in
    let dir : q.dir ≡ p.dir = ap (λ n. n.dir) named in
    λ i. record { way = way i; index = index i; end = end i; dir = dir i }

listed_kept : (M N : Objects) (P : Rules) (w : WayId) (b c : Block) → IsBlock M P w b → IsBlock N P w c
    → listed_pieces b ≡ listed_pieces c → (p : Span) → p.way ≡ w → IsPiece M P p → IsPiece N P p
listed_kept M N P w b c was is same p of h =
    let place : IsOf M P w p = record { is = h; way = of } in
    let e = piece_entry M P w p place in
    let named = entry_named M P w p place in
    let end = entry_end M P w e.0 e.1 p h named in
    let has = contains_map listed_as b.pieces e.0 (was.pieces.complete e.0 e.1) in
    let found = contains_from_map listed_as c.pieces (listed_as e.0)
    (subst (λ l. Contains l (listed_as e.0)) same has) in
    let entry = is.pieces.sound found.0 found.1 in
    let q : entry.piece ≡ p = same_span entry.piece p
    (sym entry.named ∙ sym (ap (λ x. x.0) found.2) ∙ named) (sym entry.end_is ∙ sym (ap (λ x. x.1) found.2) ∙ end) in
    subst (IsPiece N P) q entry.is

-- a way whose blocks list the same pieces has the same
pub listed_same : (M N : Objects) (P : Rules) (w : WayId) (b c : Block) → IsBlock M P w b → IsBlock N P w c
    → listed_pieces b ≡ listed_pieces c → HasSamePieces M N P w
listed_same M N P w b c was is same p of =
    (listed_kept M N P w b c was is same p of, listed_kept N M P w c b is was (sym same) p of)
