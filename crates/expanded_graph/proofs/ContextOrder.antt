-- All contexts of a piece in order are what is to be listed, the piece alone first.
use Rattle.std.proofs.Common.{◌≡◌, List, [], ◌∷◌, length, map, inl, inr, refl, sym, ap, ◌∙◌, subst, arith, IsTrue}
use Rattle.std.proofs.Common.{Contains}
use Rattle.std.specs.declared.cmp.Ordering.TheVariants.{Greater}
use Rattle.std.specs.Ordering.{nat_cmp, is_lt, ordering_then}
use Rattle.std.specs.Cmp.{IsTotalOrder, nat_cmp_is}
use Rattle.std.specs.Cmp.Lexicographic.{slice_cmp}
use Rattle.std.specs.List.Sorted.{IsPermutation}
use Rattle.std.proofs.lemmas.Bool.{false≢true}
use Rattle.std.proofs.lemmas.List.Sorted.{Contains-permutation, IsPermutation-sym}
use Rattle.road_base.specs.Objects.{Objects}
use Rattle.road_model.specs.declared.lists.PieceName.{PieceName}
use Rattle.road_model.specs.declared.lists.Context.{Context}
use Rattle.road_model.specs.Rules.{Rules}
use Rattle.road_model.specs.Pieces.{Span, IsPiece}
use Rattle.road_model.specs.Contexts.{One}
use Rattle.ordered_lists.specs.Orders.{Lists, rises}
use Rattle.road_model.specs.Orders.{name_cmp, names_cmp}
use Rattle.road_model.specs.Format.{begins_alone}
use Rattle.road_model.specs.Naming.{OnePiece}
use Rattle.expanded_graph.specs.Contexts.{IsBareContext, HasContexts}
use Rattle.ordered_lists.proofs.ListMembers.{In, in_from_contains}
use Rattle.ordered_lists.proofs.AscendingLists.{climbs}
use Rattle.expanded_graph.proofs.ContextStates.{one_context}

no_less : (l : List PieceName) → IsTrue (is_lt (names_cmp l [])) → l ≡ []
no_less [] h = refl
no_less (x ∷ l) h =
    let above : Greater ≡ nat_cmp (length (x ∷ l)) 0 = nat_cmp_is (length (x ∷ l)) 0 Greater (omega arith) in
    absurd (false≢true (ap (λ o. is_lt (ordering_then o (slice_cmp name_cmp (x ∷ l) []))) above ∙ h))

module _ (M : Objects) (P : Rules) (one : OnePiece M P) (names : IsTotalOrder name_cmp)
    (lists : IsTotalOrder names_cmp) (p : Span) (piece : IsPiece M P p) (es fs : List Context)
    (has : HasContexts M P p es) (moved : IsPermutation es fs)
    (up : IsTrue (rises names_cmp (map (λ c. c.before) fs))) where
  pub listed : Lists (λ c. c.before) names_cmp (IsBareContext M P p) fs
  listed = record {
    ascending = up;
    sound = λ e there. has.sound e (Contains-permutation fs es e (IsPermutation-sym es fs moved) there);
    complete = λ e h.
        let r = has.all h.before h.context in
        let same = one_context M P one p names r.0 e (has.sound r.0 r.1) h (r.2 ∙ sym h.named) in
        subst (Contains fs) same (Contains-permutation es fs r.0 moved r.1);
  }

  alone : (e : Context) × Contains fs e × (e.before ≡ [])
  alone = let r = has.all [] (One p refl piece) in (r.0, Contains-permutation es fs r.0 moved r.1, r.2)

  first_is : (gs : List Context) → IsTrue (rises names_cmp (map (λ c. c.before) gs)) → (e : Context) → In e gs
      → e.before ≡ [] → begins_alone gs
  first_is [] climb e i none = absurd i
  first_is (g ∷ gs) climb e (inl same) none = ap (λ c. c.before) (sym same) ∙ none
  first_is (g ∷ gs) climb e (inr i) none =
      let c = climbs (λ (c : Context). c.before) names_cmp lists (g ∷ gs) climb in
      no_less g.before (subst (λ l. IsTrue (is_lt (names_cmp g.before l))) none (c.0 e i))

  pub first_alone : begins_alone fs
  first_alone = first_is fs up alone.0 (in_from_contains fs alone.0 alone.1) alone.2
