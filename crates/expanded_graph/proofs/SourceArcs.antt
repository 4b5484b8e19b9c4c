-- Arcs by a piece, as they are kept: by the names that the target has before the piece, and the names of the context
-- from which they come.
use Rattle.std.proofs.Common.{◌≡◌, ◌+◌, ◌-◌, ◌≤◌, List, [], ◌∷◌, ◌++◌, length, map, drop, inl, inr, refl, sym, ap}
use Rattle.std.proofs.Common.{◌∙◌, subst, arith, append_assoc, length-append, Contains}
use Rattle.std.proofs.Math.Seq.{drop-append_seam}
use Rattle.std.proofs.lemmas.List.{map-append, length-map, same_from_push}
use Rattle.road_base.specs.Objects.{Objects}
use Rattle.road_model.specs.declared.lists.PieceName.{PieceName}
use Rattle.road_model.specs.declared.lists.TurnArc.{TurnArc}
use Rattle.road_model.specs.Rules.{Rules}
use Rattle.road_model.specs.Pieces.{Span, IsPiece}
use Rattle.road_model.specs.Network.{IsContextOf, IsArc}
use Rattle.road_model.specs.Blocks.{name_of, IsArcEntry}
use Rattle.road_model.specs.Naming.{OnePiece}
use Rattle.expanded_graph.specs.declared.sources.Leading.{Leading}
use Rattle.expanded_graph.specs.Sources.{IsLeadingOf, Gains}
use Rattle.ordered_lists.proofs.ListMembers.{In, push_cases, in_from_contains, contains_from_in, in_left, in_end}
use Rattle.road_model.proofs.WalkLists.{some_context}
use Rattle.expanded_graph.proofs.TurnStepLists.{nil_or_last}

module _ (M : Objects) (P : Rules) (c : List Span) (p : Span) where
  -- what an arc by the piece leads to ends with it, and the pieces before it end the context
  pub record Target (target : List Span) : Type 0 where
    pub before : List Span
    pub is : target ≡ before ++ p ∷ []
    pub front : List Span
    pub ends : c ≡ front ++ before

  target_of : (target : List Span) → IsContextOf M P (c ++ p ∷ []) target → Target target
  target_of target to = elim (nil_or_last target) [
    | inl none ↦
        let some = some_context M P target to.holds in
        let length_none : length target ≡ 0 = ap length none in
        absurd (omega arith)
    | inr r ↦
        let whole : c ++ p ∷ [] ≡ (to.front ++ r.0) ++ r.1 ∷ [] =
        to.is ∙ (ap (λ l. to.front ++ l) r.2 ∙ sym (append_assoc to.front r.0 (r.1 ∷ []))) in
        let same = same_from_push c (to.front ++ r.0) p r.1 whole in
        record {
          before = r.0;
          is = r.2 ∙ ap (λ x. r.0 ++ x ∷ []) (sym same.1);
          front = to.front;
          ends = same.0;
        }
  ]

  -- no arc leads by the piece
  pub gains_none : ((a : TurnArc) → IsArcEntry M P c a → a.piece ≡ name_of p → ⊥) → (old new : List Leading)
      → new ≡ old → Gains (IsLeadingOf M P c p) old new
  gains_none none old new same = λ k. (
    λ has. inl (subst (λ l. Contains l k) same has),
    λ h. elim h [
      | inl has ↦ subst (λ l. Contains l k) (sym same) has
      | inr is ↦ absurd (none (record { piece = name_of p; length = length (is.before ++ p ∷ []) })
          (record { piece = p; target = is.before ++ p ∷ []; arc = is.arc; named = refl; length_is = refl }) refl)
    ],
  )

  -- ---- the arc by the piece

  module _ (one : OnePiece M P) (piece : IsPiece M P p) (a : TurnArc) (e : IsArcEntry M P c a)
      (by : a.piece ≡ name_of p) where
    same_piece : e.piece ≡ p
    same_piece = one e.piece p e.arc.by piece (sym e.named ∙ by)

    arc : IsArc M P c p e.target
    arc = subst (λ t. IsArc M P c t e.target) same_piece e.arc

    pub there : Target e.target
    there = target_of e.target arc.to

    module _ (names : List PieceName) (are : names ≡ map name_of c) where
      target_count : a.length ≡ length there.before + 1
      target_count =
          let h = length-append there.before (p ∷ []) in
          let l = e.length_is in
          let k = ap length there.is in
          omega (arith, h, l, k)

      name_count : length names ≡ length there.front + length there.before
      name_count =
          ap length are ∙ (length-map c name_of ∙ (ap length there.ends ∙ length-append there.front there.before))

      -- the names before the piece are among those of the context
      pub some_piece : 1 ≤ a.length
      some_piece = let t = target_count in omega (arith, t)

      pub so_many : a.length - 1 ≤ length names
      so_many = let t = target_count in let n = name_count in omega (arith, t, n)

      pub last_names : drop (length names - (a.length - 1)) names ≡ map name_of there.before
      last_names =
          let front = map name_of there.front in
          let before = map name_of there.before in
          let split : names ≡ front ++ before =
          are ∙ (ap (map name_of) there.ends ∙ map-append name_of there.front there.before) in
          let t = target_count in
          let n = name_count in
          let f = length-map there.front name_of in
          let count : length names - (a.length - 1) ≡ length front = omega (arith, t, n, f) in
          ap (λ j. drop j names) count ∙ (ap (drop (length front)) split ∙ drop-append_seam front before)

      module _ (l : Leading) (target : l.before ≡ drop (length names - (a.length - 1)) names)
          (source : l.source ≡ names)
          (one_end : (d b e : List Span) → IsContextOf M P d b → IsContextOf M P d e → b ≡ e) where
        leads : IsLeadingOf M P c p l
        leads = record {
          before = there.before;
          arc = subst (λ t. IsArc M P c p t) there.is arc;
          target = target ∙ last_names;
          named = source ∙ are;
        }

        only : (k : Leading) → IsLeadingOf M P c p k → k ≡ l
        unfolding there leads
        only k h =
            let same : h.before ++ p ∷ [] ≡ e.target =
            one_end (c ++ p ∷ []) (h.before ++ p ∷ []) e.target h.arc.to arc.to in
            let before = (same_from_push h.before there.before p p (same ∙ there.is)).0 in
            let b : k.before ≡ l.before = h.target ∙ (ap (map name_of) before ∙ sym leads.target) in
            let s : k.source ≡ l.source = h.named ∙ sym leads.named in
            λ i. record { before = b i; source = s i }

        pub gains_one : (old new : List Leading) → new ≡ old ++ l ∷ [] → Gains (IsLeadingOf M P c p) old new
        gains_one old new grown = λ k. (
          λ has. elim (push_cases old l k (subst (In k) grown (in_from_contains new k has))) [
            | inl i ↦ inl (contains_from_in old k i)
            | inr same ↦ inr (subst (IsLeadingOf M P c p) (sym same) leads)
          ],
          λ h. contains_from_in new k (subst (In k) (sym grown) (elim h [
            | inl has ↦ in_left old (l ∷ []) k (in_from_contains old k has)
            | inr is ↦ subst (λ x. In x (old ++ l ∷ [])) (sym (only k is)) (in_end old l [])
          ])),
        )
