-- Contexts are known by their names, and those to which arcs lead are listed.
use Rattle.std.proofs.Common.{◌≡◌, ℕ, ◌+◌, ◌-◌, List, [], ◌∷◌, ◌++◌, length, map, drop, Contains, refl, sym, ◌∙◌, ap}
use Rattle.std.proofs.Common.{subst}
use Rattle.std.proofs.Common.{arith, append_assoc, length-append}
use Rattle.std.proofs.lemmas.List.{map-append, length-map}
use Rattle.road_base.specs.declared.ids.NodeId.{NodeId}
use Rattle.road_base.specs.declared.ids.WayId.{WayId}
use Rattle.road_base.specs.Objects.{Objects}
use Rattle.ordered_lists.proofs.Splits.{same_last}
use Rattle.road_model.specs.declared.lists.TurnArc.{TurnArc}
use Rattle.road_model.specs.declared.lists.Piece.{Piece}
use Rattle.road_model.specs.Rules.{Rules}
use Rattle.road_model.specs.Lines.{steps_from}
use Rattle.road_model.specs.Pieces.{Span, IsPiece, spell}
use Rattle.road_model.specs.Contexts.{Every, One}
use Rattle.road_model.specs.Network.{IsContext}
use Rattle.road_model.specs.Blocks.{IsPieceEntry, IsArcEntry, name_of}
use Rattle.road_model.specs.Naming.{OnePiece}
use Rattle.road_model.specs.Driving.{is_marked}
use Rattle.road_model.proofs.LongestContext.{Every-front}
use Rattle.road_model.proofs.WalkLists.{context_pieces}
use Rattle.context_search.specs.declared.ends.Begin.{Begin}
use Rattle.context_search.specs.Marks.{At, key_of, names_behind}
use Rattle.context_search.specs.Visits.{HasTargets}
use Rattle.context_search.specs.Sought.{IsSpot, AreSpots, AreStarts}
use Rattle.context_search.specs.PhaseWalks.{mark_of}
use Rattle.context_search.specs.Routes.{spelled}
use Rattle.road_model.proofs.SomeGraph.{names_tell}
use Rattle.road_model.proofs.FileWalks.{context_ends}

-- what is behind a list is left when as much as the list is dropped
dropped : {A : Type 0} (xs ys zs : List A) (n : ℕ) → zs ≡ xs ++ ys → n ≡ length xs → drop n zs ≡ ys
dropped [] ys zs n e h = (λ i. drop (h i) (e i))
dropped (x ∷ xs) ys zs n e h = (λ i. drop (h i) (e i)) ∙ dropped xs ys (xs ++ ys) (length xs) refl refl

module _ (M : Objects) (P : Rules) where
  -- a piece is spelled as it is written
  pub entry_spells : (w : WayId) (e : Piece) (l : IsPieceEntry M P w e) → spelled e ≡ spell l.piece
  entry_spells w e l =
      let p = l.piece in
      ap (λ n. steps_from n.way n.index (e.end - n.index) n.dir) l.named
      ∙ ap (λ z. steps_from p.way p.index (z - p.index) p.dir) l.end_is

  -- a piece is marked as it is written
  pub entry_marked : (w : WayId) (e : Piece) (l : IsPieceEntry M P w e) → e.zone ≡ mark_of M P l.piece
  entry_marked w e l = l.marked ∙ ap (λ (v : WayId). is_marked M P v l.piece.dir) (sym l.of)

  -- the names of the context of the pieces b and q
  pub spot_named : (b : List Span) (q : Span) (x : At) → IsSpot M P (b ++ q ∷ []) x
      → key_of x ≡ (name_of q, map name_of b)
  spot_named b q x s =
      let l = same_last b q s.entry.before s.listed.piece s.is in
      let n : x.piece.name ≡ name_of q = s.listed.named ∙ ap name_of (sym l.last) in
      let m : x.context.before ≡ map name_of b = s.entry.named ∙ ap (map name_of) (sym l.front) in
      λ i. (n i, m i)

  -- the last piece of a context is spelled as it is written
  pub spot_spelled : (b : List Span) (q : Span) (x : At) → IsSpot M P (b ++ q ∷ []) x → spelled x.piece ≡ spell q
  spot_spelled b q x s =
      let l = same_last b q s.entry.before s.listed.piece s.is in
      entry_spells s.way x.piece s.listed ∙ ap spell (sym l.last)

  -- the last piece of a context is marked as it is written
  pub spot_marked : (b : List Span) (q : Span) (x : At) → IsSpot M P (b ++ q ∷ []) x → x.piece.zone ≡ mark_of M P q
  spot_marked b q x s =
      let l = same_last b q s.entry.before s.listed.piece s.is in
      entry_marked s.way x.piece s.listed ∙ ap (mark_of M P) (sym l.last)

  -- the context to which an arc leads, and its names
  pub record Target (x : At) (a : TurnArc) (t : Span) (e : List Span) : Type 0 where
    pub before : List Span
    pub is : e ≡ before ++ t ∷ []
    pub pieces : Every (IsPiece M P) before
    pub names : names_behind x (a.length - 1) ≡ map name_of before

  pub arc_of : (c : List Span) (x : At) → IsSpot M P c x → (a : TurnArc) → Contains x.context.arcs a
      → IsArcEntry M P c a
  arc_of c x s a has = subst (λ l. IsArcEntry M P l a) (sym s.is) (s.entry.arcs.sound a has)

  names_of : (c : List Span) (x : At) → IsSpot M P c x → map name_of c ≡ x.context.before ++ x.piece.name ∷ []
  names_of c x s = ap (map name_of) s.is ∙ map-append name_of s.entry.before (s.listed.piece ∷ [])
      ∙ (λ i. sym s.entry.named i ++ sym s.listed.named i ∷ [])

  pub arc_target : (c : List Span) (x : At) → IsSpot M P c x → (a : TurnArc) (r : IsArcEntry M P c a)
      → Target x a r.piece r.target
  arc_target c x s a r =
      let to = r.arc.to in
      let d = context_ends M P r.target to.holds in
      let whole : c ++ r.piece ∷ [] ≡ (to.front ++ d.0) ++ d.1 ∷ []
      = to.is ∙ ap (λ l. to.front ++ l) d.2 ∙ sym (append_assoc to.front d.0 (d.1 ∷ [])) in
      let l = same_last c r.piece (to.front ++ d.0) d.1 whole in
      let is : r.target ≡ d.0 ++ r.piece ∷ [] = d.2 ∙ ap (λ z. d.0 ++ z ∷ []) (sym l.last) in
      let names : x.context.before ++ x.piece.name ∷ [] ≡ map name_of to.front ++ map name_of d.0
      = sym (names_of c x s) ∙ ap (map name_of) l.front ∙ map-append name_of to.front d.0 in
      let all = ap length names in
      let h1 = length-append x.context.before (x.piece.name ∷ []) in
      let h2 = length-append (map name_of to.front) (map name_of d.0) in
      let h3 = length-map d.0 name_of in
      let h4 = ap length is in
      let h5 = length-append d.0 (r.piece ∷ []) in
      let h6 = r.length_is in
      let count : length x.context.before + 1 - (a.length - 1) ≡ length (map name_of to.front) = omega arith in
      record {
        before = d.0;
        is = is;
        pieces = Every-front (IsPiece M P) d.0 (d.1 ∷ []) (context_pieces M P (d.0 ++ d.1 ∷ [])
            (subst (λ l. IsContext M P l) d.2 to.holds));
        names = dropped (map name_of to.front) (map name_of d.0) (x.context.before ++ x.piece.name ∷ [])
            (length x.context.before + 1 - (a.length - 1)) names count;
      }

  pub has_targets : (L : List At) → AreSpots M P L → HasTargets L
  has_targets L are x a has_x has_a =
      let s = are.sound x has_x in
      let r = arc_of s.0 x s.1 a has_a in
      let t = arc_target s.0 x s.1 a r in
      let y = are.complete r.target r.arc.to.holds in
      let named = spot_named t.before r.piece y.0 (subst (λ l. IsSpot M P l y.0) t.is y.2) in
      let n : (name_of r.piece, map name_of t.before) ≡ (a.piece, names_behind x (a.length - 1))
      = λ i. (sym r.named i, sym t.names i) in
      (y.0, y.1, named ∙ n)

  -- the context of a piece alone is listed
  pub alone_listed : (L : List At) → AreSpots M P L → (p : Span) → IsPiece M P p
      → (x : At) × Contains L x × (key_of x ≡ (name_of p, []))
  alone_listed L are p is =
      let y = are.complete (p ∷ []) (One p refl is) in
      (y.0, y.1, spot_named [] p y.0 y.2)

  pub start_listed : (L : List At) (a : NodeId) (starts : List Begin) → AreSpots M P L → AreStarts M P a starts
      → (s : Begin) → Contains starts s → (x : At) × Contains L x × (key_of x ≡ (s.piece.now.name, []))
  start_listed L a starts are begin s has =
      let b = begin.sound s has in
      let y = alone_listed L are b.listed.piece b.listed.is in
      (y.0, y.1, y.2 ∙ ap (λ n. (n, [])) (sym b.listed.named))

  module _ (one : OnePiece M P) where
    -- a listed context with the names of these pieces is that of these pieces
    pub same_context : (c : List Span) (x : At) → IsSpot M P c x → (b : List Span) (q : Span)
        → Every (IsPiece M P) b → IsPiece M P q → key_of x ≡ (name_of q, map name_of b) → c ≡ b ++ q ∷ []
    same_context c x s b q every is k =
        let n : x.piece.name ≡ name_of q = ap (λ z. z.0) k in
        let m : x.context.before ≡ map name_of b = ap (λ z. z.1) k in
        let p : s.listed.piece ≡ q = one s.listed.piece q s.listed.is is (sym s.listed.named ∙ n) in
        let before = s.entry.before in
        let e = Every-front (IsPiece M P) before (s.listed.piece ∷ [])
        (context_pieces M P (before ++ s.listed.piece ∷ []) s.entry.context) in
        let f : before ≡ b = names_tell M P before b e every (sym s.entry.named ∙ m) in
        s.is ∙ ap (λ l. l ++ s.listed.piece ∷ []) f ∙ ap (λ z. b ++ z ∷ []) p
