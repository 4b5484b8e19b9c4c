-- The arcs from the contexts of a settled way's pieces are the same in both object maps.
use Rattle.std.proofs.Common.{◌≡◌, List, [], ◌∷◌, ◌++◌, inl, inr, refl, sym, ap, ◌∙◌, subst}
use Rattle.std.proofs.Common.{append_assoc, append-nil}
use Rattle.road_base.specs.declared.ids.Step.{Step}
use Rattle.road_base.specs.Objects.{Objects}
use Rattle.road_model.specs.Rules.{Rules}
use Rattle.road_model.specs.Pieces.{Span, IsPiece, spell}
use Rattle.road_model.specs.Network.{Legal, IsArc, spell_pieces}
use Rattle.ordered_lists.proofs.ListMembers.{In, in_end, in_cases}
use Rattle.ordered_lists.proofs.Splits.{Ends, Nil, Last, ends, cons_not_nil}
use Rattle.road_model.proofs.Shapes.{piece_shape}
use Rattle.road_model.proofs.WalkLists.{piece_legal, inner_legal, spell_pieces-push, context_pieces}
use Rattle.road_model.proofs.LocalPieces.{NeedsHighway}
use Rattle.road_model.proofs.LocalContexts.{spelled_way, only_one}
use Rattle.touched_ways.proofs.StillWays.{IsQuiet, IsSettled, quiet_turned}
use Rattle.touched_ways.proofs.StillTurns.{AreMet, pass_meets}
use Rattle.touched_ways.proofs.StillContexts.{AreQuiet, pieces_behind, end_kept}
use Rattle.touched_ways.proofs.StillContexts.{before_quiet, context_kept}

-- ---- where a piece stands behind another one

-- the last step of the first piece, and the first step of the second one
record Seam (M : Objects) (P : Rules) (p t : Span) : Type 0 where
  front : List Step
  last : Step
  ends_with : spell p ≡ front ++ last ∷ []
  first : Step
  others : List Step
  begins : spell t ≡ first ∷ others

seam_by : (M : Objects) (P : Rules) (p t : Span) → IsPiece M P p → IsPiece M P t → Ends (spell p) → Seam M P p t
seam_by M P p t h k (Nil e) = let f = (piece_shape M P p h).is in cc (f, e)
seam_by M P p t h k (Last front last e) = let f = piece_shape M P t k in record {
  front = front;
  last = last;
  ends_with = e;
  first = f.begin;
  others = f.others;
  begins = f.is;
}

-- two pieces joined, the steps where they meet told
joined : (p t : Span) (a : List Step) (s y : Step) (b : List Step) → spell p ≡ a ++ s ∷ [] → spell t ≡ y ∷ b
    → spell p ++ spell t ≡ a ++ s ∷ y ∷ b
joined p t a s y b e f = ap (λ v. v ++ spell t) e ∙ append_assoc a (s ∷ []) (spell t) ∙ ap (λ v. a ++ s ∷ v) f

-- where a piece follows another one, their ways share a node
pieces_met : (M : Objects) (P : Rules) → NeedsHighway P → (p t : Span) → IsPiece M P p → IsPiece M P t
    → Legal M P (spell p ++ spell t) → AreMet M p.way t.way
pieces_met M P needs p t h k l =
    let s = seam_by M P p t h k (ends (spell p)) in
    let whole = joined p t s.front s.last s.first s.others s.ends_with s.begins in
    let from = l.drives s.front s.last (s.first ∷ s.others) whole in
    let on = (piece_legal M P t k).drives [] s.first s.others s.begins in
    let last_way = spelled_way p s.last (subst (In s.last) (sym s.ends_with) (in_end s.front s.last [])) in
    let first_way = spelled_way t s.first (subst (In s.first) (sym s.begins) (inl refl)) in
    subst (λ w. AreMet M w t.way) last_way
    (subst (λ w. AreMet M s.last.way w) first_way
    (pass_meets M P needs s.last s.first from on (l.follows s.front s.last s.first s.others whole)))

-- the end of a legal list of pieces with one behind it
last_two : (M : Objects) (P : Rules) (before : List Span) (p t : Span) → IsPiece M P p
    → Legal M P (spell_pieces (before ++ p ∷ []) ++ spell t) → Legal M P (spell p ++ spell t)
last_two M P before p t h l =
    let f = piece_shape M P p h in
    let whole : spell_pieces (before ++ p ∷ []) ++ spell t ≡ spell_pieces before ++ ((spell p ++ spell t) ++ []) =
    ap (λ v. v ++ spell t) (spell_pieces-push before p) ∙ append_assoc (spell_pieces before) (spell p) (spell t)
    ∙ ap (λ v. spell_pieces before ++ v) (sym (append-nil (spell p ++ spell t))) in
    inner_legal M P (spell_pieces before) (spell p ++ spell t) []
    (λ none. cons_not_nil [] f.begin (f.others ++ spell t) (ap (λ v. v ++ spell t) (sym f.is) ∙ none))
    (subst (Legal M P) whole l)

-- ---- arcs

module _ (M N : Objects) (P : Rules) (needs : NeedsHighway P) (before : List Span) (p t : Span)
    (s : IsSettled M N P p.way) (h : IsPiece M P p) where
  -- a piece that follows one of the way is a piece in both object maps
  next_kept : IsPiece M P t → Legal M P (spell_pieces (before ++ p ∷ []) ++ spell t) → IsPiece N P t
  next_kept k l =
      let m = pieces_met M P needs p t h k (last_two M P before p t h l) in
      ((quiet_turned M N P p.way s.own).meets t.way m.node m.first m.second t refl).1 k

  quiet_pushed : AreQuiet M N P before → AreQuiet M N P (before ++ p ∷ [])
  quiet_pushed quiet q i = elim (in_cases before (p ∷ []) q i) [
    | inl j ↦ quiet q j
    | inr j ↦ subst (λ x. IsQuiet M N P x.way) (sym (only_one q p j)) s.own
  ]

  pub arc_kept : (e : List Span) → IsArc M P (before ++ p ∷ []) t e → IsArc N P (before ++ p ∷ []) t e
  arc_kept e a =
      let quiet = quiet_pushed (before_quiet M N P needs before p s a.from) in
      let back : AreQuiet N M P (before ++ p ∷ []) = λ q i. quiet_turned M N P q.way (quiet q i) in
      let is = next_kept a.by a.legal in
      let to = a.to in
      record {
        from = context_kept M N P needs before p s h a.from;
        by = is;
        legal = pieces_behind M N P needs (before ++ p ∷ []) t quiet (context_pieces M P (before ++ p ∷ []) a.from)
            a.by is a.legal;
        to = record {
          front = to.front;
          is = to.is;
          holds = end_kept M N P needs (before ++ p ∷ []) t quiet a.by is to.front e to.is to.holds;
          longest = λ x y f k. to.longest x y f (end_kept N M P needs (before ++ p ∷ []) t back is a.by x y f k);
        };
      }
