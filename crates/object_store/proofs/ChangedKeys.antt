-- Which keys events change: each one whose event in key order changes its visible body.
use Rattle.std.proofs.Common.{◌≡◌, ℕ, zero, suc, true, false, IsTrue, List, [], ◌∷◌, ◌++◌, map, filter, take, Option}
use Rattle.std.proofs.Common.{Some, None, inl, inr, refl, sym, ap, ◌∙◌, subst}
use Rattle.std.specs.declared.cmp.Ordering.TheVariants.{Less}
use Rattle.std.specs.Ordering.{is_eq}
use Rattle.std.specs.Option.{option_to_list}
use Rattle.std.specs.Cmp.{IsTotalOrder, Equal-is}
use Rattle.std.specs.FinMap.{IsAntisymmetric, get}
use Rattle.std.proofs.lemmas.Bool.{and_parts, and_from}
use Rattle.std.proofs.lemmas.Cmp.{tied_itself}
use Rattle.road_base.specs.declared.ids.Key.{Key}
use Rattle.road_base.specs.declared.event.Event.{Event}
use Rattle.road_base.specs.Objects.{Objects, Entry, key_cmp, body_in, visible}
use Rattle.road_base.specs.Applying.{entry_of, is_of, first_greatest, IsApplied}
use Rattle.ordered_lists.specs.Orders.{rises, rises_from}
use Rattle.road_model.specs.Links.{Differs, AreChanged}
use Rattle.object_store.specs.Listed.{key_of, IsInOrder}
use Rattle.object_store.specs.Changes.{Alters}
use Rattle.ordered_lists.proofs.ListMembers.{In, in_from_contains, contains_from_in, in_end, in_left, push_cases}
use Rattle.ordered_lists.proofs.AscendingLists.{rest_rises}
use Rattle.ordered_lists.proofs.Comparisons.{turned}
use Rattle.ordered_lists.proofs.RisingLists.{one_more_rises}
use Rattle.object_store.proofs.InOrder.{above, other_above, none_kept, one_or_none}

same_list : (keys : List Key) → map (λ k. k) keys ≡ keys
same_list [] = refl
same_list (k ∷ keys) = ap (λ l. k ∷ l) (same_list keys)

-- ---- lists in order

take_above : (n : Key) (m : ℕ) (xs : List Event) → IsTrue (rises_from key_cmp n (map key_of xs))
    → IsTrue (rises_from key_cmp n (map key_of (take m xs)))
take_above n zero xs h = refl
take_above n (suc m) [] h = refl
take_above n (suc m) (x ∷ xs) h = let p = and_parts _ _ h in and_from _ _ p.0 (take_above x.key m xs p.1)

pub take_in_order : (m : ℕ) (xs : List Event) → IsInOrder xs → IsInOrder (take m xs)
take_in_order zero xs h = refl
take_in_order (suc m) [] h = refl
take_in_order (suc m) (x ∷ xs) h = take_above x.key m xs h

-- ---- the keys that are picked from the events

pub record IsPicked (P : Event → Type 0) (xs : List Event) (keys : List Key) : Type 0 where
  pub ascending : IsTrue (rises key_cmp keys)
  pub sound : (k : Key) → In k keys → (e : Event) × In e xs × (e.key ≡ k) × P e
  pub complete : (e : Event) → In e xs → P e → In e.key keys

pub none_picked : (P : Event → Type 0) → IsPicked P [] []
none_picked P = record { ascending = refl; sound = λ k i. absurd i; complete = λ e i p. absurd i }

pub picked_not : (P : Event → Type 0) (xs : List Event) (e : Event) (keys : List Key) → IsPicked P xs keys → ¬ (P e)
    → IsPicked P (xs ++ e ∷ []) keys
picked_not P xs e keys picked not_here = record {
  ascending = picked.ascending;
  sound = λ k i. let s = picked.sound k i in (s.0, in_left xs (e ∷ []) s.0 s.1, s.2, s.3);
  complete = λ x i p. elim (push_cases xs e x i)
      [ inl j ↦ picked.complete x j p | inr h ↦ absurd (not_here (subst P h p)) ];
}

-- the event changes the visible body of its key in M
abbrev pub AltersIn : Objects → Event → Type 0
AltersIn M e = Alters (get M e.key) (entry_of e)

module _ (total : IsTotalOrder key_cmp) where
  below_last : (xs : List Event) (e x : Event) → IsInOrder (xs ++ e ∷ []) → In x xs → key_cmp x.key e.key ≡ Less
  below_last [] e x h i = absurd i
  below_last (y ∷ xs) e x h (inl g) = subst (λ z. key_cmp (key_of z) e.key ≡ Less) (sym g)
      (above total y.key (xs ++ e ∷ []) h e (in_end xs e []))
  below_last (y ∷ xs) e x h (inr i) = below_last xs e x (rest_rises key_cmp y.key (map key_of (xs ++ e ∷ [])) h) i

  pub picked_one : (P : Event → Type 0) (xs : List Event) (e : Event) (keys : List Key) → IsInOrder (xs ++ e ∷ [])
      → IsPicked P xs keys → P e → IsPicked P (xs ++ e ∷ []) (keys ++ e.key ∷ [])
  picked_one P xs e keys up picked here = record {
    ascending = one_more_rises key_cmp keys e.key picked.ascending
        (λ j i. let s = picked.sound j i in subst (λ k. key_cmp k e.key ≡ Less) s.2 (below_last xs e s.0 up s.1));
    sound = λ k i. elim (push_cases keys e.key k i) [
      | inl j ↦ let s = picked.sound k j in (s.0, in_left xs (e ∷ []) s.0 s.1, s.2, s.3)
      | inr h ↦ (e, in_end xs e [], sym h, here)
    ];
    complete = λ x i p. elim (push_cases xs e x i) [
      | inl j ↦ in_left keys (e.key ∷ []) x.key (picked.complete x j p)
      | inr h ↦ subst (λ k. In k (keys ++ e.key ∷ [])) (ap key_of (sym h)) (in_end keys e.key [])
    ];
  }

  -- a key of a list in order has one event in it
  alone : (xs : List Event) → IsInOrder xs → (e : Event) → In e xs → filter (is_of e.key) xs ≡ e ∷ []
  alone [] h e i = absurd i
  alone (x ∷ xs) h e (inl g) =
      subst (λ z. filter (is_of (key_of z)) (x ∷ xs) ≡ z ∷ []) (sym g)
      (let t : is_of x.key x ≡ true = ap is_eq (tied_itself total x.key) in rw
      (t, none_kept x.key xs (other_above total x.key xs h)) refl)
  alone (x ∷ xs) h e (inr i) =
      let t : is_of e.key x ≡ false = ap is_eq (turned key_cmp total x.key e.key Less (above total x.key xs h e i)) in
      rw t (alone xs (rest_rises key_cmp x.key (map key_of xs) h) e i)

  -- what one event of a key leaves there
  left_at : (M N : Objects) (events : List Event) → IsInOrder events → IsApplied M events N → (e : Event) → In e events
      → get N e.key ≡ first_greatest (option_to_list (get M e.key) ++ entry_of e ∷ [])
  left_at M N events h applied e i = applied e.key
      ∙ ap (λ l. first_greatest (option_to_list (get M e.key) ++ map entry_of l)) (alone events h e i)

  greatest_old : (o : Option Entry) → first_greatest (option_to_list o ++ []) ≡ o
  greatest_old None = refl
  greatest_old (Some e) = refl

  left_else : (M N : Objects) (events : List Event) → IsApplied M events N → (k : Key)
      → ((x : Event) → In x events → is_of k x ≡ false) → get N k ≡ get M k
  left_else M N events applied k none = applied k
      ∙ ap (λ l. first_greatest (option_to_list (get M k) ++ map entry_of l)) (none_kept k events none)
      ∙ greatest_old (get M k)

  differs_from : (M N : Objects) (e : Event)
      → get N e.key ≡ first_greatest (option_to_list (get M e.key) ++ entry_of e ∷ []) → AltersIn M e
      → Differs M N e.key
  unfolding visible
  differs_from M N e left alters same = alters (same ∙ ap body_in left)

  differs_to : (M N : Objects) (e : Event) → get N e.key
      ≡ first_greatest (option_to_list (get M e.key) ++ entry_of e ∷ []) → Differs M N e.key → AltersIn M e
  unfolding visible
  differs_to M N e left differs same = differs (same ∙ ap body_in (sym left))

  same_visible : (M N : Objects) (k : Key) → get N k ≡ get M k → visible M k ≡ visible N k
  unfolding visible
  same_visible M N k e = ap body_in (sym e)

  pub changed : IsAntisymmetric key_cmp → (M N : Objects) (events : List Event) (keys : List Key) → IsInOrder events
      → IsPicked (AltersIn M) events keys → IsApplied M events N → AreChanged M N keys
  changed exact M N events keys h picked applied = record {
    ascending = subst (λ l. IsTrue (rises key_cmp l)) (sym (same_list keys)) picked.ascending;
    sound = λ k within.
        let s = picked.sound k (in_from_contains keys k within) in
        subst (Differs M N) s.2 (differs_from M N s.0 (left_at M N events h applied s.0 s.1) s.3);
    complete = λ k differs.
        contains_from_in keys k (elim (one_or_none k events) [
          | inl f ↦
              let e : k ≡ key_of f.0 = exact _ _ ((Equal-is _).0 f.2) in
              subst (λ j. In j keys) (sym e) (picked.complete f.0 f.1
              (differs_to M N f.0 (left_at M N events h applied f.0 f.1) (subst (Differs M N) e differs)))
          | inr none ↦ absurd (differs (same_visible M N k (left_else M N events applied k none)))
        ]);
  }
