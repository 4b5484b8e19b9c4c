-- How what calls find is put together.
use Rattle.std.proofs.Common.{◌≡◌, ℕ, ◌+◌, ◌<◌, ◌≤◌, ◌⊎◌, inl, inr, List, [], length, take, get_or, refl}
use Rattle.std.proofs.Common.{sym, subst}
use Rattle.std.proofs.lemmas.List.{take_all}
use Rattle.road_base.specs.declared.ids.Key.{Key}
use Rattle.ordered_lists.proofs.ListMembers.{contains_none}
use Rattle.ordered_lists.proofs.JoinedLists.{one_more, has_last, has_before}
use Rattle.cell_check.specs.declared.search.LinkSearch.{LinkSearch}
use Rattle.cell_check.specs.Searches.{Finds, FromStart, GivenBy, GivenFrom, IsOne}

-- ---- one call behind another

-- nothing is to be found
pub finds_none : (s : LinkSearch) (Is : Key → Key → Type 0) → ((k v : Key) → Is k v → ⊥) → Finds s s Is
finds_none s Is none = record {
  sound = λ k v h. inl h;
  complete = λ k v i. absurd (none k v i);
  keeps = λ k v h. h;
  new_sound = λ k v h. inl h;
  new_complete = λ k v h. inl h;
  new_keeps = λ k v h. h;
}

pub finds_as : (s t : LinkSearch) (Is Other : Key → Key → Type 0) → Finds s t Is
    → ((k v : Key) → Is k v → Other k v) → ((k v : Key) → Other k v → Is k v) → Finds s t Other
finds_as s t Is Other h to from = record {
  sound = λ k v i. elim (h.sound k v i) [ inl old ↦ inl old | inr new ↦ inr (to k v new) ];
  complete = λ k v i. h.complete k v (from k v i);
  keeps = h.keeps;
  new_sound = λ k v i. elim (h.new_sound k v i) [ inl old ↦ inl old | inr new ↦ inr (to k v new) ];
  new_complete = h.new_complete;
  new_keeps = h.new_keeps;
}

pub finds_both : (s t u : LinkSearch) (Is Next More : Key → Key → Type 0) → Finds s t Is → Finds t u Next
    → ((k v : Key) → Is k v → More k v) → ((k v : Key) → Next k v → More k v)
    → ((k v : Key) → More k v → Is k v ⊎ Next k v) → Finds s u More
finds_both s t u Is Next More first second this that from = record {
  sound = λ k v i. elim (second.sound k v i) [
    | inl before ↦ elim (first.sound k v before) [ inl old ↦ inl old | inr new ↦ inr (this k v new) ]
    | inr new ↦ inr (that k v new)
  ];
  complete = λ k v m. elim (from k v m) [
    | inl i ↦ let c = first.complete k v i in (c.0, second.keeps k c.0 c.1)
    | inr n ↦ second.complete k v n
  ];
  keeps = λ k v i. second.keeps k v (first.keeps k v i);
  new_sound = λ k v i. elim (second.new_sound k v i) [
    | inl before ↦ elim (first.new_sound k v before) [ inl old ↦ inl old | inr new ↦ inr (this k v new) ]
    | inr new ↦ inr (that k v new)
  ];
  new_complete = λ k v i. elim (second.new_complete k v i) [
    | inl before ↦ elim (first.new_complete k v before)
        [ inl old ↦ inl old | inr new ↦ inr (second.new_keeps k v new) ]
    | inr new ↦ inr new
  ];
  new_keeps = λ k v i. second.new_keeps k v (first.new_keeps k v i);
}

-- ---- one element of a list after the other

module _ {A : Type 0} (Gives : A → Key → Key → Type 0) where
  pub finds_first : (s : LinkSearch) (xs : List A) → Finds s s (GivenFrom Gives (take 0 xs))
  finds_first s xs = finds_none s (GivenFrom Gives []) (λ k v g. contains_none g.0 g.1)

  pub finds_next : (s t u : LinkSearch) (xs : List A) (i : ℕ) (d : A) → i < length xs
      → Finds s t (GivenFrom Gives (take i xs)) → Finds t u (Gives (get_or xs i d))
      → Finds s u (GivenFrom Gives (take (i + 1) xs))
  finds_next s t u xs i d within first second =
      finds_both s t u (GivenFrom Gives (take i xs)) (Gives (get_or xs i d)) (GivenFrom Gives (take (i + 1) xs))
      first second
      (λ k v b. (b.0, has_before xs i d b.0 within b.1, b.2))
      (λ k v n. (get_or xs i d, has_last xs i d (get_or xs i d) within refl, n))
      (λ k v m. elim (one_more xs i d m.0 within m.1) [
        | inl last ↦ inr (subst (λ x. Gives x k v) last m.2)
        | inr before ↦ inl (m.0, before, m.2)
      ])

  pub finds_all : (s t : LinkSearch) (xs : List A) (i : ℕ) → length xs ≤ i
      → Finds s t (GivenFrom Gives (take i xs)) → Finds s t (GivenFrom Gives xs)
  finds_all s t xs i past h = subst (λ (l : List A). Finds s t (GivenFrom Gives l)) (take_all i xs past) h

-- ---- from one start

-- what each gives from one start is what one of them gives, from that start
pub finds_given : {A : Type 0} (Gives : A → Key → Type 0) (start : Key) (s t : LinkSearch) (xs : List A)
    → Finds s t (GivenFrom (λ x. FromStart start (Gives x)) xs) → Finds s t (FromStart start (GivenBy Gives xs))
finds_given Gives start s t xs h =
    finds_as s t (GivenFrom (λ x. FromStart start (Gives x)) xs) (FromStart start (GivenBy Gives xs)) h
    (λ k v g. ((g.0, g.1, g.2.0), g.2.1)) (λ k v g. (g.0.0, g.0.1, (g.0.2, g.1)))

-- the key is found where the fact holds of it
pub finds_if : (s t : LinkSearch) (key start : Key) (Is : Key → Type 0) → Is key → Finds s t (IsOne key start)
    → Finds s t (FromStart start (λ k. (k ≡ key) × Is k))
finds_if s t key start Is is h =
    finds_as s t (IsOne key start) (FromStart start (λ k. (k ≡ key) × Is k)) h
    (λ k v e. ((e.0, subst Is (sym e.0) is), e.1)) (λ k v p. (p.0.0, p.1))

pub finds_not : (s : LinkSearch) (key start : Key) (Is : Key → Type 0) → (Is key → ⊥)
    → Finds s s (FromStart start (λ k. (k ≡ key) × Is k))
finds_not s key start Is not =
    finds_none s (FromStart start (λ k. (k ≡ key) × Is k)) (λ k v p. not (subst Is p.0.0 p.0.1))
