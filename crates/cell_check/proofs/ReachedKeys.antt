-- A search comes to one key more.
use Rattle.std.proofs.Common.{◌≡◌, ◌⊎◌, inl, inr, List, ◌∷◌, [], ◌++◌, Option, Some, None, true, false, cond}
use Rattle.std.proofs.Common.{Contains, refl, sym, ap, subst, ◌∙◌}
use Rattle.std.specs.Prelude.{is_some}
use Rattle.std.specs.Ordering.{is_eq}
use Rattle.std.specs.declared.cmp.Ordering.{Ordering}
use Rattle.std.specs.Cmp.{IsTotalOrder}
use Rattle.std.specs.FinMap.{IsAntisymmetric}
use Rattle.std.specs.BTreeMap.{BTreeMap, get, Updates}
use Rattle.std.proofs.lemmas.Bool.{false≢true}
use Rattle.std.proofs.lemmas.Cmp.{tied_itself}
use Rattle.std.proofs.lemmas.List.Elements.{Contains-append_left}
use Rattle.road_base.specs.declared.ids.Key.{Key}
use Rattle.road_base.specs.Objects.{key_cmp}
use Rattle.ordered_lists.proofs.Comparisons.{eq_cases}
use Rattle.ordered_lists.proofs.ListMembers.{contains_more, contains_from_in, in_end}
use Rattle.cell_check.specs.declared.search.LinkSearch.{LinkSearch}
use Rattle.cell_check.specs.declared.search.Reached.{Reached}
use Rattle.cell_check.specs.Searches.{Finds, IsAt, IsNew, HasCome, IsOne}

-- ---- the order in which keys are kept is that of keys

module _ (cmp : Key → Key → Ordering) (by : (a b : Key) → cmp a b ≡ key_cmp a b) where
  same_order : cmp ≡ key_cmp
  same_order = λ i a b. by a b i

  pub got_by : (m : BTreeMap Key Key) (k : Key) (o : Option Key) → o ≡ get cmp m k → o ≡ get key_cmp m k
  got_by m k o e = e ∙ ap (λ (f : Key → Key → Ordering). get f m k) same_order

  pub updates_by : (m n : BTreeMap Key Key) (k v : Key) → Updates cmp m n k (Some v) → Updates key_cmp m n k (Some v)
  updates_by m n k v h = subst (λ (f : Key → Key → Ordering). Updates f m n k (Some v)) same_order h

-- ---- it had come to the key before

some_at : (o : Option Key) → is_some o ≡ true → (v : Key) × (o ≡ Some v)
some_at None e = absurd (false≢true e)
some_at (Some v) e = (v, refl)

none_at : (o : Option Key) → is_some o ≡ false → o ≡ None
none_at None e = refl
none_at (Some v) e = absurd (false≢true (sym e))

pub come_before : (s : LinkSearch) (key start : Key) (o : Option Key) → o ≡ get key_cmp s.starts key
    → is_some o ≡ true → Finds s s (IsOne key start)
come_before s key start o is there = record {
  sound = λ k v h. inl h;
  complete = λ k v one.
      let at = some_at o there in
      subst (HasCome s) (sym one.0) (at.0, sym is ∙ at.1);
  keeps = λ k v h. h;
  new_sound = λ k v h. inl h;
  new_complete = λ k v h. inl h;
  new_keeps = λ k v h. h;
}

-- ---- it hadn't

module _ (total : IsTotalOrder key_cmp) (ties : IsAntisymmetric key_cmp) (s t : LinkSearch) (key start : Key)
    (o : Option Key) (is : o ≡ get key_cmp s.starts key) (nowhere : is_some o ≡ false)
    (put : Updates key_cmp s.starts t.starts key (Some start))
    (more : t.frontier.items ≡ s.frontier.items ++ record { key = key; start = start } ∷ []) where
  free : get key_cmp s.starts key ≡ None
  free = sym is ∙ none_at o nowhere

  here : IsAt t key start
  here = put.0 key ∙ ap (λ r. cond (is_eq r) (Some start) (get key_cmp s.starts key)) (tied_itself total key)

  cases : (k v : Key) → IsAt t k v → IsAt s k v ⊎ IsOne key start k v
  cases k v at = elim (eq_cases (key_cmp key k)) [
    | inl tied ↦
        let one : Some v ≡ Some start
        = sym at ∙ (put.0 k ∙ ap (λ r. cond (is_eq r) (Some start) (get key_cmp s.starts k)) tied) in
        let last : v ≡ start = cc in
        inr (sym (ties key k tied), last)
    | inr apart ↦ inl (sym (put.0 k ∙ ap (λ b. cond b (Some start) (get key_cmp s.starts k)) apart) ∙ at)
  ]

  stays : (k v : Key) → IsAt s k v → IsAt t k v
  stays k v at = elim (eq_cases (key_cmp key k)) [
    | inl tied ↦
        let same : key ≡ k = ties key k tied in
        let none : Some v ≡ None = sym at ∙ ap (get key_cmp s.starts) (sym same) ∙ free in
        cc
    | inr apart ↦ put.0 k ∙ ap (λ b. cond b (Some start) (get key_cmp s.starts k)) apart ∙ at
  ]

  new_here : IsNew t key start
  new_here = subst (λ (l : List Reached). Contains l (record { key = key; start = start })) (sym more)
      (contains_from_in _ _ (in_end s.frontier.items (record { key = key; start = start }) []))

  pub come_now : Finds s t (IsOne key start)
  come_now = record {
    sound = cases;
    complete = λ k v one. subst (HasCome t) (sym one.0) (start, here);
    keeps = stays;
    new_sound = λ k v new. elim (contains_more s.frontier.items (record { key = key; start = start })
        (record { key = k; start = v })
        (subst (λ (l : List Reached). Contains l (record { key = k; start = v })) more new)) [
          | inl old ↦ inl old
          | inr same ↦ inr (ap (λ (x : Reached). x.key) same, ap (λ (x : Reached). x.start) same)
        ];
    new_complete = λ k v at. elim (cases k v at) [
      | inl old ↦ inl old
      | inr one ↦ inr (subst (λ x. IsNew t x v) (sym one.0) (subst (λ y. IsNew t key y) (sym one.1) new_here))
    ];
    new_keeps = λ k v new. subst (λ (l : List Reached). Contains l (record { key = k; start = v })) (sym more)
        (Contains-append_left s.frontier.items (record { key = key; start = start } ∷ []) _ new);
  }
