-- The block of a way is the same in both object maps where all that stands in it but the sources is, and where the
-- blocks of every way list the same arcs by pieces of this one.
use Rattle.std.proofs.Common.{◌≡◌, ◌↔◌, ◌+◌, inl, inr, List, [], ◌∷◌, ◌++◌, length, map, drop, refl, sym, ap, ◌∙◌, subst}
use Rattle.std.proofs.Common.{arith, length-append}
use Rattle.std.proofs.lemmas.List.{map-append, length-map}
use Rattle.std.proofs.Math.Seq.{drop-append_seam}
use Rattle.road_base.specs.declared.ids.WayId.{WayId}
use Rattle.road_base.specs.Objects.{Objects}
use Rattle.road_model.specs.declared.lists.PieceName.{PieceName}
use Rattle.road_model.specs.declared.lists.TurnArc.{TurnArc}
use Rattle.road_model.specs.declared.lists.Context.{Context}
use Rattle.road_model.specs.declared.lists.Piece.{Piece}
use Rattle.road_model.specs.declared.blocks.Block.{Block}
use Rattle.road_model.specs.Rules.{Rules}
use Rattle.road_model.specs.Pieces.{Span, IsPiece}
use Rattle.road_model.specs.Network.{IsContext, IsArc}
use Rattle.ordered_lists.specs.Orders.{Lists}
use Rattle.road_model.specs.Orders.{names_cmp}
use Rattle.road_model.specs.Local.{HasSameArcs}
use Rattle.road_model.specs.Blocks.{IsArcEntry, IsSourceEntry, IsContextEntry, IsPieceEntry, IsBlock, name_of}
use Rattle.ordered_lists.proofs.Splits.{Ends, Nil, Last, ends}
use Rattle.road_model.proofs.LongestContext.{Every-tail}
use Rattle.road_model.proofs.WalkLists.{context_pieces, some_context}
use Rattle.road_model.proofs.UniqueEntries.{one_piece}
use Rattle.road_model.proofs.FinitePieces.{IsOf}
use Rattle.road_model.proofs.FiniteContexts.{arcs_of}
use Rattle.road_model.proofs.SourceLists.{sources_of}
use Rattle.road_model.proofs.SomeGraph.{piece_entry, entry_named, names_tell}
use Rattle.road_model.proofs.LocalBlocks.{lists_kept}
use Rattle.touched_ways.specs.Altering.{ListsArc, IsLedAlike}

-- ---- lists that are joined

pub same_ends : {A : Type 0} (xs ys us vs : List A) → xs ++ ys ≡ us ++ vs → length ys ≡ length vs → ys ≡ vs
same_ends xs ys us vs e l =
    let both : length xs + length ys ≡ length us + length vs =
    sym (length-append xs ys) ∙ ap length e ∙ length-append us vs in
    let front : length xs ≡ length us = omega (arith, both, l) in
    sym (drop-append_seam xs ys) ∙ ap (drop (length xs)) e ∙ ap (λ n. drop n (us ++ vs)) front ∙ drop-append_seam us vs

-- the names of the last pieces of two lists with the same names
ends_named : (a b x y : List Span) → map name_of (a ++ x) ≡ map name_of (b ++ y) → length x ≡ length y
    → map name_of x ≡ map name_of y
ends_named a b x y e l = same_ends (map name_of a) (map name_of x) (map name_of b) (map name_of y)
    (sym (map-append name_of a x) ∙ e ∙ map-append name_of b y)
    (length-map x name_of ∙ l ∙ sym (length-map y name_of))

pushed_named : (a b : List Span) (p q : Span) → map name_of a ≡ map name_of b → name_of p ≡ name_of q
    → map name_of (a ++ p ∷ []) ≡ map name_of (b ++ q ∷ [])
pushed_named a b p q e f = map-append name_of a (p ∷ []) ∙ ap (λ l. l ++ name_of p ∷ []) e
    ∙ ap (λ n. map name_of b ++ n ∷ []) f ∙ sym (map-append name_of b (q ∷ []))

-- ---- arcs and the blocks that list them

module _ (M : Objects) (P : Rules) where
  last_piece : (before : List Span) (p : Span) → IsContext M P (before ++ p ∷ []) → IsPiece M P p
  last_piece before p c = (Every-tail (IsPiece M P) before (p ∷ []) (context_pieces M P (before ++ p ∷ []) c)).0

  -- the arc as a block writes it
  abbrev pub arc_to : Span → List Span → TurnArc
  arc_to p c = record { piece = name_of p; length = length c }

  -- the block of a way lists an arc from the contexts of its pieces
  pub listed_arc : (v : WayId) (b : Block) → IsBlock M P v b → (before : List Span) (q p : Span) (c : List Span)
      → q.way ≡ v → IsArc M P (before ++ q ∷ []) p c
      → ListsArc b.pieces (name_of q) (map name_of before) (arc_to p c)
  listed_arc v b is before q p c of a =
      let h = last_piece before q a.from in
      let place : IsOf M P v q = record { is = h; way = of } in
      let e = piece_entry M P v q place in
      let named = entry_named M P v q place in
      let same : e.1.piece ≡ q = one_piece M P e.1.piece q e.1.is h (sym e.1.named ∙ named) in
      let contexts = subst (λ x. Lists (λ (k : Context). k.before) names_cmp (IsContextEntry M P x) e.0.contexts) same
      e.1.contexts in
      let arcs = arcs_of M P (before ++ q ∷ []) in
      let sources = sources_of M P q (before ++ q ∷ []) in
      let context : Context = record { before = map name_of before; arcs = arcs.0; sources = sources.0 } in
      let written : IsContextEntry M P q context = record {
        before = before;
        context = a.from;
        named = refl;
        arcs = arcs.1;
        sources = sources.1;
      } in
      let arc : IsArcEntry M P (before ++ q ∷ []) (arc_to p c) = record {
        piece = p;
        target = c;
        arc = a;
        named = refl;
        length_is = refl;
      } in
      record {
        piece = e.0;
        listed = is.pieces.complete e.0 e.1;
        named = named;
        arc = record {
          context = context;
          listed = contexts.complete context written;
          behind = refl;
          arc = arcs.1.complete (arc_to p c) arc;
        };
      }

  -- an arc whose block writes these names
  pub record IsNamedArc (name : PieceName) (names : List PieceName) (a : TurnArc) : Type 0 where
    pub before : List Span
    pub last : Span
    pub piece : Span
    pub target : List Span
    pub arc : IsArc M P (before ++ last ∷ []) piece target
    pub behind : names ≡ map name_of before
    pub from : name ≡ name_of last
    pub by : a.piece ≡ name_of piece
    pub length_is : a.length ≡ length target

  -- what the block of a way lists are such
  pub arc_listed : (v : WayId) (b : Block) → IsBlock M P v b → (name : PieceName) (names : List PieceName) (a : TurnArc)
      → ListsArc b.pieces name names a → IsNamedArc name names a
  arc_listed v b is name names a l =
      let e = is.pieces.sound l.piece l.listed in
      let c = e.contexts.sound l.arc.context l.arc.listed in
      let k = c.arcs.sound a l.arc.arc in
      record {
        before = c.before;
        last = e.piece;
        piece = k.piece;
        target = k.target;
        arc = k.arc;
        behind = sym l.arc.behind ∙ c.named;
        from = sym l.named ∙ e.named;
        by = k.named;
        length_is = k.length_is;
      }

-- ---- in both object maps

pub turned : (M N : Objects) (P : Rules) (w : WayId) → HasSameArcs M N P w → HasSameArcs N M P w
turned M N P w h = record {
  pieces = λ p of. let e = h.pieces p of in (e.1, e.0);
  marks = λ d. sym (h.marks d);
  places = λ p k x of i. let e = h.places p k x of ((h.pieces p of).1 i) in (e.1, e.0);
  contexts = λ before p of. let e = h.contexts before p of in (e.1, e.0);
  arcs = λ before p t target of. let e = h.arcs before p t target of in (e.1, e.0);
}

led_turned : (M N : Objects) (P : Rules) (w v : WayId) → IsLedAlike M N P w v → IsLedAlike N M P w v
led_turned M N P w v (inl h) = inl (turned M N P v h)
led_turned M N P w v (inr h) = inr (record {
  was = h.is;
  is = h.was;
  before = h.after;
  after = h.before;
  same = λ name names a to. let e = h.same name names a to in (e.1, e.0);
})

module _ (M N : Objects) (P : Rules) (w : WayId) (same : HasSameArcs M N P w) where
  -- an arc to a context of the way has another in the other object map, of the same names
  named_arc : (b : List Span) (q p : Span) (c : List Span) → p.way ≡ w → IsContext N P c → IsArc M P (b ++ q ∷ []) p c
      → IsNamedArc N P (name_of q) (map name_of b) (arc_to M P p c)
      → (s : List PieceName) → s ≡ map name_of (b ++ q ∷ []) → IsSourceEntry N P p c s
  named_arc b q p c of there a r s named =
      let is : IsPiece N P p = (same.pieces p of).0 a.by in
      let by : r.piece ≡ p = one_piece N P r.piece p r.arc.by is (sym r.by) in
      let from : map name_of (r.before ++ r.last ∷ []) ≡ map name_of (b ++ q ∷ []) =
      pushed_named r.before b r.last q (sym r.behind) (sym r.from) in
      let whole : map name_of (r.arc.to.front ++ r.target) ≡ map name_of (a.to.front ++ c) =
      ap (map name_of) (sym r.arc.to.is)
      ∙ pushed_named (r.before ++ r.last ∷ []) (b ++ q ∷ []) r.piece p from (sym r.by)
      ∙ ap (map name_of) a.to.is in
      let target : r.target ≡ c = names_tell N P r.target c (context_pieces N P r.target r.arc.to.holds)
      (context_pieces N P c there) (ends_named r.arc.to.front a.to.front r.target c whole (sym r.length_is)) in
      record {
        from = r.before ++ r.last ∷ [];
        arc = subst (λ t. IsArc N P (r.before ++ r.last ∷ []) p t) target
            (subst (λ t. IsArc N P (r.before ++ r.last ∷ []) t r.target) by r.arc);
        named = named ∙ sym from;
      }

  module _ (led : (v : WayId) → IsLedAlike M N P w v) (p : Span) (of : p.way ≡ w) (c : List Span)
      (there : IsContext N P c) (s : List PieceName) where
    source_by : (b : List Span) (q : Span) → IsLedAlike M N P w q.way → IsArc M P (b ++ q ∷ []) p c
        → s ≡ map name_of (b ++ q ∷ []) → IsSourceEntry N P p c s
    source_by b q (inl h) a named = record {
      from = b ++ q ∷ [];
      arc = (h.arcs b q p c refl).0 a;
      named = named;
    }
    source_by b q (inr h) a named =
        let was = listed_arc M P q.way h.was h.before b q p c refl a in
        let is = (h.same (name_of q) (map name_of b) (arc_to M P p c) of).0 was in
        named_arc b q p c of there a (arc_listed N P q.way h.is h.after (name_of q) (map name_of b) (arc_to M P p c) is)
        s named

    source_from : (from : List Span) → Ends from → IsArc M P from p c → s ≡ map name_of from → IsSourceEntry N P p c s
    source_from from (Nil e) a named =
        let some = some_context M P from a.from in let none = ap length e in absurd (omega arith)
    source_from from (Last b q e) a named = source_by b q (led q.way) (subst (λ d. IsArc M P d p c) e a)
        (named ∙ ap (map name_of) e)

    source_kept : IsSourceEntry M P p c s → IsSourceEntry N P p c s
    source_kept e = source_from e.from (ends e.from) e.arc e.named

  arc_entry : (before : List Span) (p : Span) → p.way ≡ w → (a : TurnArc)
      → IsArcEntry M P (before ++ p ∷ []) a → IsArcEntry N P (before ++ p ∷ []) a
  arc_entry before p of a e = record {
    piece = e.piece;
    target = e.target;
    arc = (same.arcs before p e.piece e.target of).0 e.arc;
    named = e.named;
    length_is = e.length_is;
  }

module _ (M N : Objects) (P : Rules) (w : WayId) (same : HasSameArcs M N P w)
    (led : (v : WayId) → IsLedAlike M N P w v) where
  context_entry : (p : Span) → p.way ≡ w → (e : Context) → IsContextEntry M P p e → IsContextEntry N P p e
  context_entry p of e c =
      let there = (same.contexts c.before p of).0 c.context in
      let back = turned M N P w same in
      record {
        before = c.before;
        context = there;
        named = c.named;
        arcs = lists_kept e.arcs (arc_entry M N P w same c.before p of) (arc_entry N M P w back c.before p of) c.arcs;
        sources = lists_kept e.sources (source_kept M N P w same led p of (c.before ++ p ∷ []) there)
            (source_kept N M P w back (λ v. led_turned M N P w v (led v)) p of (c.before ++ p ∷ []) c.context)
            c.sources;
      }

module _ (M N : Objects) (P : Rules) (w : WayId) (same : HasSameArcs M N P w)
    (led : (v : WayId) → IsLedAlike M N P w v) where
  kept_entry : (e : Piece) → IsPieceEntry M P w e → IsPieceEntry N P w e
  kept_entry e p = record {
    piece = p.piece;
    is = (same.pieces p.piece p.of).0 p.is;
    of = p.of;
    named = p.named;
    end_is = p.end_is;
    marked = p.marked ∙ same.marks p.piece.dir;
    count = p.count;
    places = λ k x at. (same.places p.piece k x p.of p.is).0 (p.places k x at);
    contexts = lists_kept e.contexts (context_entry M N P w same led p.piece p.of)
        (context_entry N M P w (turned M N P w same) (λ v. led_turned M N P w v (led v)) p.piece p.of) p.contexts;
  }

block_kept : (M N : Objects) (P : Rules) (w : WayId) → HasSameArcs M N P w → ((v : WayId) → IsLedAlike M N P w v)
    → (b : Block) → IsBlock M P w b → IsBlock N P w b
block_kept M N P w same led b h = record {
  way = h.way;
  pieces = lists_kept b.pieces (kept_entry M N P w same led)
      (kept_entry N M P w (turned M N P w same) (λ v. led_turned M N P w v (led v))) h.pieces;
}

pub led_block : (M N : Objects) (P : Rules) (w : WayId) (b : Block) → HasSameArcs M N P w
    → ((v : WayId) → IsLedAlike M N P w v) → IsBlock M P w b ↔ IsBlock N P w b
led_block M N P w b same led = (
  block_kept M N P w same led b,
  block_kept N M P w (turned M N P w same) (λ v. led_turned M N P w v (led v)) b,
)
