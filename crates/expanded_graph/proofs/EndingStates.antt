-- Which states contexts of two pieces or more end in, and the list of them by the pieces with which they end.
use Rattle.std.proofs.Common.{◌≡◌, ℕ, ◌+◌, ◌<◌, List, [], ◌∷◌, ◌++◌, length, map, ◌⊎◌, inl, inr, Bool, refl, sym}
use Rattle.std.proofs.Common.{ap, ◌∙◌, subst, arith, Some, IsTrue, slice_get, get_or, cond, ◌==◌}
use Rattle.std.specs.Ordering.{nat_cmp, is_lt, is_eq}
use Rattle.std.specs.Cmp.{IsTotalOrder, Equal-is}
use Rattle.std.specs.FinMap.{IsAntisymmetric}
use Rattle.std.specs.List.{filter}
use Rattle.std.specs.List.Sorted.{IsSortedByKey, IsStableByKey}
use Rattle.std.specs.declared.cmp.Ordering.TheVariants.{Less, Equal, Greater}
use Rattle.std.proofs.lemmas.Bool.{lt-ltb}
use Rattle.std.proofs.lemmas.Cmp.{nat_cmp_total, tied_itself}
use Rattle.std.proofs.lemmas.List.{same_from_push}
use Rattle.road_base.specs.declared.ids.WayId.{WayId}
use Rattle.road_base.specs.declared.ids.Step.{Step}
use Rattle.road_model.specs.declared.lists.PieceName.{PieceName}
use Rattle.ordered_lists.specs.Orders.{rises}
use Rattle.road_model.specs.Orders.{name_cmp}
use Rattle.turn_automata.specs.Trees.{IsClosed}
use Rattle.turn_automata.specs.Machines.{Machine, StandsFor}
use Rattle.expanded_graph.specs.declared.states.StateFacts.{StateFacts}
use Rattle.expanded_graph.specs.declared.endings.Ending.{Ending}
use Rattle.expanded_graph.specs.Contexts.{IsEnding, AreEndings, AreEndingsWith, EndsWithName, same_name}
use Rattle.ordered_lists.proofs.ListMembers.{In, in_get, push_cases, in_from_contains, contains_from_in, in_end, in_left}
use Rattle.ordered_lists.proofs.ListMembers.{in_map, from_map}
use Rattle.ordered_lists.proofs.AscendingLists.{Climbs, climbs, climbs_push, climbs_filter, rises_again}
use Rattle.ordered_lists.proofs.FilteredLists.{in_filter, from_filter}
use Rattle.ordered_lists.proofs.SortedParts.{kept_by_sort}
use Rattle.ordered_lists.proofs.ListPlaces.{some_at, one_stands}
use Rattle.expanded_graph.proofs.TurnStepLists.{nil_or_cons}

some_name : (a b : PieceName) → Some a ≡ Some b → a ≡ b
some_name a b e = cc

abbrev pub HasNameOn : StateFacts → WayId → Type 0
HasNameOn f w = (n : PieceName) × (f.ends ≡ Some n) × (n.way ≡ w)

module _ (m : Machine) (facts : List StateFacts) (w : WayId) (closed : IsClosed m.states) (n before : ℕ) (x : Step)
    (edge : (p : List Step) → StandsFor m before p → StandsFor m n (p ++ x ∷ [])) (less : before < n)
    (within : n < length m.states) (known : StateFacts) (fact : slice_get facts n ≡ Some known) where
  -- the list of the state before
  shorter : (p : List Step) × StandsFor m before p
  shorter = some_at m.states before (omega arith)

  ending_at : (p : List Step) → StandsFor m before p → (before ≡ 0 → ⊥) → IsTrue known.is_legal → HasNameOn known w
      → IsEnding m facts w n
  ending_at p at grown legal name = elim (nil_or_cons p) [
    | inl none ↦ absurd (grown (closed.once before 0 [] (subst (StandsFor m before) none at) closed.empty))
    | inr r ↦ record {
      first = r.0;
      middle = r.1;
      last = x;
      at = subst (λ q. StandsFor m n (q ++ x ∷ [])) r.2 (edge p at);
      known = known;
      fact = fact;
      legal = legal;
      name = name.0;
      ends = name.1;
      on = name.2;
    }
  ]

  ending : (before ≡ 0 → ⊥) → IsTrue known.is_legal → HasNameOn known w → IsEnding m facts w n
  ending = ending_at shorter.0 shorter.1

  pub not_root : IsEnding m facts w n → before ≡ 0 → ⊥
  not_root e root =
      let same = same_from_push shorter.0 (e.first ∷ e.middle) x e.last
      (one_stands m.states n _ _ (edge shorter.0 shorter.1) e.at) in
      let none : shorter.0 ≡ [] = one_stands m.states 0 shorter.0 []
      (subst (λ k. StandsFor m k shorter.0) root shorter.1) closed.empty in
      let k = same.0 in
      cc

  pub has_legal : IsEnding m facts w n → IsTrue known.is_legal
  has_legal e = subst (λ f. IsTrue f.is_legal) (one_stands facts n e.known known e.fact fact) e.legal

  -- a context may end in the state with the piece that the state's last step ends
  pub ending_with : (before ≡ 0 → ⊥) → IsTrue known.is_legal → (name : PieceName)
      → (known.ends ≡ Some name) × (name.way ≡ w) → IsEnding m facts w n × EndsWithName facts n name
  ending_with grown legal name h =
      (ending grown legal (name, h.0, h.1), record { known = known; fact = fact; ends = h.0 })

  pub name_on : (name : PieceName) → IsEnding m facts w n × EndsWithName facts n name
      → (known.ends ≡ Some name) × (name.way ≡ w)
  name_on name h =
      let e = h.0 in
      let its = subst (λ f. f.ends ≡ Some e.name) (one_stands facts n e.known known e.fact fact) e.ends in
      let this = subst (λ f. f.ends ≡ Some name) (one_stands facts n (h.1).known known (h.1).fact fact) (h.1).ends in
      let same : e.name ≡ name = some_name e.name name (sym its ∙ this) in
      (this, ap (λ k. k.way) (sym same) ∙ e.on)

-- the first state stands for no steps
pub root_ends_none : (m : Machine) (facts : List StateFacts) (w : WayId) → IsClosed m.states → IsEnding m facts w 0 → ⊥
root_ends_none m facts w closed e = let k = one_stands m.states 0 _ _ e.at closed.empty in cc

-- the endings below a number
pub record AreEndingsBelow (m : Machine) (facts : List StateFacts) (i : ℕ) (es : List Ending) : Type 0 where
  pub ascending : Climbs (λ e. e.state) nat_cmp nat_cmp_total es
  pub sound : (e : Ending) → In e es → (e.state < i)
      × (IsEnding m facts e.piece.way e.state × EndsWithName facts e.state e.piece)
  pub complete : (n : ℕ) (name : PieceName) → n < i → IsEnding m facts name.way n × EndsWithName facts n name
      → In (record { piece = name; state = n }) es

below_or_at : (n i : ℕ) → n < i + 1 → (n < i) ⊎ (n ≡ i)
below_or_at n i h = grind arith

map_itself : (ns : List ℕ) → map (λ n. n) ns ≡ ns
map_itself [] = refl
map_itself (n ∷ ns) = ap (λ l. n ∷ l) (map_itself ns)

pub ascends : (ns : List ℕ) → IsTrue (rises nat_cmp ns) → Climbs (λ n. n) nat_cmp nat_cmp_total ns
ascends ns h = climbs (λ n. n) nat_cmp nat_cmp_total ns (ap (rises nat_cmp) (map_itself ns) ∙ h)

number_below : (a b : ℕ) → a < b → IsTrue (is_lt (nat_cmp a b))
number_below a b h = ap (λ t. is_lt (cond t Less (cond (a == b) Equal Greater))) (lt-ltb a b h)

module _ (m : Machine) (facts : List StateFacts) (i : ℕ) (es : List Ending) (so_far : AreEndingsBelow m facts i es)
  where
    -- the state ends a piece by one name
    one_piece : (a b : PieceName) → EndsWithName facts i a → EndsWithName facts i b → a ≡ b
    one_piece a b h k = some_name a b (sym h.ends ∙
        (ap (λ f. f.ends) (one_stands facts i h.known k.known h.fact k.fact) ∙ k.ends))

    pub one_more : (name : PieceName) → IsEnding m facts name.way i × EndsWithName facts i name
        → AreEndingsBelow m facts (i + 1) (es ++ record { piece = name; state = i } ∷ [])
    one_more name is =
        let new : Ending = record { piece = name; state = i } in
        record {
          ascending = climbs_push (λ e. e.state) nat_cmp nat_cmp_total es new so_far.ascending
              (λ e j. number_below e.state i (so_far.sound e j).0);
          sound = λ e j. elim (push_cases es new e j) [
            | inl k ↦ let h = so_far.sound e k in let l = h.0 in (omega arith, h.1)
            | inr same ↦ (
              let at : e.state ≡ i = ap (λ k. k.state) same in omega arith,
              subst (λ (k : Ending). IsEnding m facts k.piece.way k.state × EndsWithName facts k.state k.piece)
                  (sym same) is,
            )
          ];
          complete = λ n k l h. elim (below_or_at n i l) [
            | inl low ↦ in_left es (new ∷ []) (record { piece = k; state = n }) (so_far.complete n k low h)
            | inr at ↦
                let piece : name ≡ k = one_piece name k is.1 (subst (λ j. EndsWithName facts j k) at h.1) in
                let same : new ≡ record { piece = k; state = n } = λ x. record { piece = piece x; state = (sym at) x }
                in
                subst (λ z. In z (es ++ new ∷ [])) same (in_end es new [])
          ];
        }

    pub no_more : ((name : PieceName) → IsEnding m facts name.way i × EndsWithName facts i name → ⊥)
        → AreEndingsBelow m facts (i + 1) es
    no_more none = record {
      ascending = so_far.ascending;
      sound = λ e j. let h = so_far.sound e j in let l = h.0 in (omega arith, h.1);
      complete = λ n name l h. elim (below_or_at n i l) [
        | inl low ↦ so_far.complete n name low h
        | inr same ↦ absurd (none name (subst (λ k. IsEnding m facts name.way k × EndsWithName facts k name) same h))
      ];
    }

    -- sorted by piece, those of each piece are there
    module _ (low : (w : WayId) (n : ℕ) → IsEnding m facts w n → n < i) (names : IsTotalOrder name_cmp)
        (exact : IsAntisymmetric name_cmp) (fs : List Ending) (stable : IsStableByKey (λ e. e.piece) name_cmp es fs)
      where
        module _ (name : PieceName) where
          abbrev here : Ending → Bool
          here e = same_name e.piece name

          kept : filter here es ≡ filter here fs
          kept = kept_by_sort (λ (e : Ending). e.piece) name_cmp names (record { piece = name; state = 0 }) es fs stable

          sound : (n : ℕ) → In n (map (λ e. e.state) (filter here fs))
              → IsEnding m facts name.way n × EndsWithName facts n name
          sound n j =
              let e = from_map (λ (e : Ending). e.state) (filter here fs) n j in
              let passes = from_filter here es e.0 (subst (In e.0) (sym kept) e.1) in
              let piece : (e.0).piece ≡ name = exact (e.0).piece name ((Equal-is _).0 passes.1) in
              subst (λ (k : PieceName). IsEnding m facts k.way n × EndsWithName facts n k) piece
              (subst (λ k. IsEnding m facts (e.0).piece.way k × EndsWithName facts k (e.0).piece) (sym e.2)
              (so_far.sound e.0 passes.0).1)

          complete : (n : ℕ) → IsEnding m facts name.way n × EndsWithName facts n name
              → In n (map (λ e. e.state) (filter here fs))
          complete n h =
              let e : Ending = record { piece = name; state = n } in
              in_map (λ (e : Ending). e.state) (filter here fs) e
              (subst (In e) kept (in_filter here es e (so_far.complete n name (low name.way n h.0) h)
              (ap is_eq (tied_itself names name))))

          with_name : AreEndingsWith m facts name.way name (map (λ e. e.state) (filter here fs))
          with_name = record {
            ascending = subst (λ (l : List Ending). IsTrue (rises nat_cmp (map (λ e. e.state) l))) kept
                (rises_again (λ e. e.state) nat_cmp nat_cmp_total (filter here es)
                (climbs_filter (λ e. e.state) nat_cmp nat_cmp_total here es so_far.ascending));
            each = λ n. (λ has. sound n (in_from_contains _ n has), λ h. contains_from_in _ n (complete n h));
          }

        pub all_endings : IsSortedByKey (λ e. e.piece) name_cmp fs → AreEndings m facts fs
        all_endings sorted = record { sorted = sorted; each = with_name }

-- those with a piece, of all endings
module _ (m : Machine) (facts : List StateFacts) (name : PieceName) (here : List Ending) where
  abbrev pub AreHere : Type 0
  AreHere = AreEndingsWith m facts name.way name (map (λ e. e.state) here)

  pub are_here : (es : List Ending) → AreEndings m facts es → here ≡ filter (λ e. same_name e.piece name) es → AreHere
  are_here es are is = subst (λ (l : List Ending). AreEndingsWith m facts name.way name (map (λ e. e.state) l)) (sym is)
      (are.each name)

  pub ends_here : AreHere → (i : ℕ) (d : Ending) → i < length here
      → IsEnding m facts name.way (get_or here i d).state × EndsWithName facts (get_or here i d).state name
  ends_here are i d within = (are.each _).0 (contains_from_in _ _
      (in_map (λ (e : Ending). e.state) here _ (in_get here i d within)))

pub no_endings : (m : Machine) (facts : List StateFacts) → IsClosed m.states → AreEndingsBelow m facts 1 []
no_endings m facts closed = record {
  ascending = tt;
  sound = λ e j. absurd j;
  complete = λ n name l h. let root : n ≡ 0 = omega arith in
      absurd (root_ends_none m facts name.way closed (subst (IsEnding m facts name.way) root h.0));
}
