-- The contexts of a piece that were written so far, and all of them.
use Rattle.std.proofs.Common.{
  ◌≡◌,
  ℕ,
  ◌+◌,
  ◌<◌,
  ◌↔◌,
  List,
  [],
  ◌∷◌,
  ◌++◌,
  length,
  map,
  take,
  get_or,
  ◌⊎◌,
  inl,
  inr,
  refl,
  sym,
  ap,
  ◌∙◌,
  subst,
  IsTrue,
  Contains,
}
use Rattle.std.specs.Ordering.{nat_cmp, eq_by_cmp, is_lt}
use Rattle.std.specs.Cmp.{IsTotalOrder}
use Rattle.std.specs.FinMap.{IsAntisymmetric}
use Rattle.std.specs.List.{IsDistinct}
use Rattle.std.proofs.lemmas.Cmp.{eq_by_cmp_equiv, nat_cmp_total}
use Rattle.std.proofs.lemmas.List.{take_more, map-append, same_from_push}
use Rattle.std.proofs.lemmas.Map.Keys.{IsDistinct-push}
use Rattle.road_base.specs.declared.ids.Step.{Step}
use Rattle.road_base.specs.Objects.{Objects}
use Rattle.road_model.specs.declared.lists.PieceName.{PieceName}
use Rattle.road_model.specs.declared.lists.Context.{Context}
use Rattle.road_model.specs.Rules.{Rules}
use Rattle.road_model.specs.Pieces.{Span, IsPiece}
use Rattle.road_model.specs.Contexts.{Every}
use Rattle.road_model.specs.Network.{IsContext}
use Rattle.road_model.specs.Turning.{HasTurnSteps}
use Rattle.ordered_lists.specs.Orders.{rises}
use Rattle.road_model.specs.Orders.{names_cmp}
use Rattle.road_model.specs.Blocks.{name_of}
use Rattle.turn_automata.specs.Trees.{IsClosed}
use Rattle.turn_automata.specs.Watched.{IsWatchable}
use Rattle.turn_automata.specs.Machines.{Machine}
use Rattle.expanded_graph.specs.declared.states.StateFacts.{StateFacts}
use Rattle.expanded_graph.specs.States.{AreStates}
use Rattle.expanded_graph.specs.Contexts.{AreEndingsWith, IsBareContext, IsContextIn, HasContexts}
use Rattle.ordered_lists.proofs.ListMembers.{In, push_cases, from_map, in_from_contains, contains_from_in, in_end}
use Rattle.ordered_lists.proofs.ListMembers.{in_left}
use Rattle.ordered_lists.proofs.AscendingLists.{Climbs, climbs_take, below_end}
use Rattle.ordered_lists.proofs.Comparisons.{not_itself}
use Rattle.ordered_lists.proofs.ListPlaces.{one_stands}
use Rattle.road_model.proofs.WalkLists.{context_pieces}
use Rattle.expanded_graph.proofs.TurnStepLists.{nil_or_cons}
use Rattle.expanded_graph.proofs.EndingStates.{ascends as numbers_climb}
use Rattle.expanded_graph.proofs.DistinctNames.{apart, none_of, nothing_distinct}
use Rattle.expanded_graph.proofs.ContextStates.{StepLaws, ends_in, one_state}

map_none : {A B : Type 0} (f : A → B) (xs : List A) → map f xs ≡ [] → xs ≡ []
map_none f [] e = refl
map_none f (x ∷ xs) e = cc

abbrev pub before_of : Context → List PieceName
before_of e = e.before

-- the contexts written so far: the piece alone, and one in each of the states so far
pub record Gathered (M : Objects) (P : Rules) (m : Machine) (p : Span) (ns : List ℕ) (es : List Context) : Type 0 where
  pub sound : (e : Context) → In e es → IsBareContext M P p e
  pub alone : (e : Context) × In e es × (e.before ≡ [])
  pub from : (e : Context) → In e es → (e.before ≡ []) ⊎ ((n : ℕ) × In n ns × IsContextIn M P m p n e)
  pub all : (n : ℕ) → In n ns → (e : Context) × In e es × IsContextIn M P m p n e
  pub distinct : IsDistinct (eq_by_cmp names_cmp) (map before_of es)

module _ (M : Objects) (P : Rules) (laws : StepLaws M P) (total : IsTotalOrder names_cmp)
    (ties : IsAntisymmetric names_cmp) (m : Machine) (closed : IsClosed m.states) (p : Span) where
  pub gathered_alone : (e : Context) → IsBareContext M P p e → e.before ≡ [] → Gathered M P m p [] (e ∷ [])
  gathered_alone e h none = record {
    sound = λ x i. elim i [ inl same ↦ subst (IsBareContext M P p) (sym same) h | inr j ↦ absurd j ];
    alone = (e, inl refl, none);
    from = λ x i. elim i [ inl same ↦ inl (ap before_of same ∙ none) | inr j ↦ absurd j ];
    all = λ n i. absurd i;
    distinct = IsDistinct-push (eq_by_cmp_equiv total) [] e.before (nothing_distinct (eq_by_cmp names_cmp)) refl;
  }

  module _ (ns : List ℕ) (es : List Context) (so_far : Gathered M P m p ns es) (n : ℕ) where
    module _ (up : (k : ℕ) → In k ns → k ≡ n → ⊥) (x : Context) (h : IsContextIn M P m p n x) where
      other_names : (e : Context) → In e es → x.before ≡ e.before → ⊥
      other_names e i same = elim (so_far.from e i) [
        | inl none ↦ h.longer (map_none name_of h.entry.before (sym h.entry.named ∙ (same ∙ none)))
        | inr r ↦ up r.0 r.1 (one_state M P laws.one p m closed r.0 n e x r.2 h (sym same))
      ]

      new : IsDistinct (eq_by_cmp names_cmp) (map before_of (es ++ x ∷ []))
      new =
          subst (IsDistinct (eq_by_cmp names_cmp)) (sym (map-append before_of es (x ∷ [])))
          (IsDistinct-push (eq_by_cmp_equiv total) (map before_of es) x.before so_far.distinct
          (none_of (eq_by_cmp names_cmp x.before) (map before_of es) (λ y i.
          let r = from_map before_of es y i in
          apart names_cmp total ties x.before y (λ same. other_names r.0 r.1 (same ∙ r.2)))))

      pub gathered_more : Gathered M P m p (ns ++ n ∷ []) (es ++ x ∷ [])
      gathered_more = record {
        sound = λ e i. elim (push_cases es x e i)
            [ inl j ↦ so_far.sound e j | inr same ↦ subst (IsBareContext M P p) (sym same) h.entry ];
        alone = let a = so_far.alone in (a.0, in_left es (x ∷ []) a.0 a.1, a.2);
        from = λ e i. elim (push_cases es x e i) [
          | inl j ↦ elim (so_far.from e j) [ inl none ↦ inl none | inr r ↦ inr (r.0, in_left ns (n ∷ []) r.0 r.1, r.2) ]
          | inr same ↦ inr (n, in_end ns n [], subst (IsContextIn M P m p n) (sym same) h)
        ];
        all = λ k i. elim (push_cases ns n k i) [
          | inl j ↦ let r = so_far.all k j in (r.0, in_left es (x ∷ []) r.0 r.1, r.2)
          | inr same ↦ (x, in_end es x [], subst (λ v. IsContextIn M P m p v x) (sym same) h)
        ];
        distinct = new;
      }

  -- ---- along the endings

  module _ (ns : List ℕ) (rising : IsTrue (rises nat_cmp ns)) (es : List Context) (i : ℕ) (within : i < length ns)
      (so_far : Gathered M P m p (take i ns) es) where
    abbrev at : ℕ
    at = get_or ns i 0

    grown : take (i + 1) ns ≡ take i ns ++ at ∷ []
    grown = take_more ns i 0 within

    apart_before : (k : ℕ) → In k (take i ns) → k ≡ at → ⊥
    apart_before k j same =
        let climb = subst (Climbs (λ n. n) nat_cmp nat_cmp_total) grown
        (climbs_take (λ n. n) nat_cmp nat_cmp_total (i + 1) ns (numbers_climb ns rising)) in
        let below = below_end (λ n. n) nat_cmp nat_cmp_total (take i ns) at climb k j in
        not_itself nat_cmp nat_cmp_total at (subst (λ v. IsTrue (is_lt (nat_cmp v at))) same below)

    pub more_at : (n : ℕ) → at ≡ n → (x : Context) → IsContextIn M P m p n x
        → Gathered M P m p (take (i + 1) ns) (es ++ x ∷ [])
    more_at n is x h =
        subst (λ l. Gathered M P m p l (es ++ x ∷ [])) (sym grown)
        (gathered_more (take i ns) es so_far at apart_before x (subst (λ k. IsContextIn M P m p k x) (sym is) h))

  -- ---- all contexts

  module _ (facts : List StateFacts) (lists : (q : List Step) → Contains m.states q ↔ IsWatchable m.words q)
      (piece : IsPiece M P p) (known : AreStates M P p.way m.words m.states facts)
      (one_steps : (c d : List Span) (q : List Step) → Every (IsPiece M P) c → Every (IsPiece M P) d
      → HasTurnSteps c q → HasTurnSteps d q → c ≡ d) (ns : List ℕ)
      (endings : AreEndingsWith m facts p.way (name_of p) ns) (es : List Context) (gathered : Gathered M P m p ns es)
    where
      there : (before : List Span) → IsContext M P (before ++ p ∷ []) → (e : Context) × Contains es e
          × (e.before ≡ map name_of before)
      there before context = elim (nil_or_cons before) [
        | inl none ↦ let a = gathered.alone in (a.0, contains_from_in es a.0 a.1, a.2 ∙ ap (map name_of) (sym none))
        | inr r ↦
            let some : before ≡ [] → ⊥ = λ z. (let e = r.2 in cc) in
            let state = ends_in M P laws m facts closed lists p piece known before some context in
            let found = gathered.all state.number
            (in_from_contains ns state.number ((endings.each state.number).1 (state.ending, state.named))) in
            let h = found.2 in
            let steps = one_stands m.states state.number h.steps state.steps h.at state.at in
            let same = one_steps (h.entry.before ++ p ∷ []) (before ++ p ∷ []) state.steps
            (context_pieces M P (h.entry.before ++ p ∷ []) h.entry.context)
            (context_pieces M P (before ++ p ∷ []) context)
            (subst (HasTurnSteps (h.entry.before ++ p ∷ [])) steps h.turn) state.turn in (
              found.0,
              contains_from_in es found.0 found.1,
              h.entry.named
                  ∙ ap (map name_of) (same_from_push h.entry.before before p p same).0,
            )
      ]

      pub has_contexts : HasContexts M P p es
      has_contexts =
          record {
            sound = λ e has. gathered.sound e (in_from_contains es e has);
            all = there;
            distinct = gathered.distinct;
          }
