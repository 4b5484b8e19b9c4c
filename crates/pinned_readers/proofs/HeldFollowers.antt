-- Which followers are held, and for which states of the rule they stand.
use Rattle.std.proofs.Common.{◌≡◌, ◌∙◌, ◌⊎◌, inl, inr, ◌+◌, ◌<◌, ℕ, cond, refl, sym, ap, subst, arith}
use Rattle.std.specs.Prelude.{Some, None, is_some, IsSome}
use Rattle.std.specs.Ordering.{nat_cmp}
use Rattle.std.specs.Cmp.{nat_cmp_total}
use Rattle.std.specs.FinMap.{FinMap, get, insert, empty, len, len-insert, len-empty}
use Rattle.std.proofs.lemmas.Option.{none-some}
use Rattle.road_base.specs.Objects.{Objects}
use Rattle.road_base.specs.History.{History, HasObjects, kept}
use Rattle.pinned_readers.specs.PinnedRuns.{Pins, IsPinnedAt, IsPinnedNumber, up_to}
use Rattle.pinned_readers.specs.Followers.{Followers, AreNeeded, StandsFor, held}
use Rattle.pinned_readers.proofs.NumberMaps.{at_put, beside_put, put_cases, some_of, none_of, is_some_by, nothing_in}
use Rattle.pinned_readers.proofs.EarlierHistories.{all_of}

pub less_differ : (n k : ℕ) → n < k → n ≡ k → ⊥
less_differ n k below same = omega (arith, below, same)

abbrev pub followers : {F : Type 0} → ℕ → F → FinMap nat_cmp F → Pins → Followers F
followers number newest older pins = record { number = number; newest = newest; older = older; pins = pins }

module _ {F : Type 0} (s : Followers F) where
  pub held_newest : get (held s) s.number ≡ Some s.newest
  held_newest = at_put s.older s.number s.newest

  pub held_at : (n : ℕ) (f : F) → n ≡ s.number → s.newest ≡ f → get (held s) n ≡ Some f
  held_at n f same is = ap (λ k. get (held s) k) same ∙ held_newest ∙ ap Some is

module _ {F : Type 0} (objects : F → Objects) (s : Followers F) (h : History) (pins : Pins)
    (stands : StandsFor objects s h pins) where
  pub newest_objects : HasObjects h (objects s.newest)
  newest_objects =
      subst (λ g. HasObjects g (objects s.newest)) (ap (up_to h) stands.number ∙ all_of h)
      (stands.followed s.number s.newest (held_newest s))

  -- where followers are only dropped, those that are left have the objects that they had
  pub followed_still : (older : FinMap nat_cmp F) → ((n : ℕ) (f : F) → get older n ≡ Some f → get (held s) n ≡ Some f)
      → (n : ℕ) (f : F) → get (insert older s.number s.newest) n ≡ Some f → HasObjects (up_to h n) (objects f)
  followed_still older was n f at = elim (put_cases older s.number s.newest n f at) [
    | inl same ↦ stands.followed n f (held_at s n f same.0 same.1)
    | inr before ↦ stands.followed n f (was n f before)
  ]

module _ {F Fixed : Type 0} (fixed : F → Fixed) (s : Followers F) (are : AreNeeded fixed s) where
  pub held_older : (n : ℕ) (f : F) → get s.older n ≡ Some f → get (held s) n ≡ Some f
  held_older n f at = beside_put s.older s.number s.newest n (less_differ n s.number (are.below n f at)) ∙ at

  pub held_pinned : (reader n : ℕ) → IsPinnedAt s.pins reader n → IsSome (get (held s) n)
  held_pinned reader n at = elim (are.pinned reader n at) [
    | inl same ↦ is_some_by _ s.newest (held_at s n s.newest same refl)
    | inr some ↦ let f = some_of (get s.older n) some in is_some_by _ f.0 (held_older n f.0 f.1)
  ]

  pub held_rest : (n : ℕ) → get s.older n ≡ None → IsSome (get (held s) n) → get (held s) n ≡ Some s.newest
  held_rest n none some =
      let f = some_of (get (held s) n) some in elim (put_cases s.older s.number s.newest n f.0 f.1) [
        | inl same ↦ held_at s n s.newest same.0 refl
        | inr at ↦ absurd (none-some f.0 (sym none ∙ at))
      ]

  pub held_needed : (n : ℕ) → IsSome (get (held s) n) → (n ≡ s.number) ⊎ IsPinnedNumber s.pins n
  held_needed n some =
      let f = some_of (get (held s) n) some in elim (put_cases s.older s.number s.newest n f.0 f.1) [
        | inl same ↦ inl same.0
        | inr at ↦ inr (are.needed n f.0 at)
      ]

  pub needed_held : (n : ℕ) → (n ≡ s.number) ⊎ IsPinnedNumber s.pins n → IsSome (get (held s) n)
  needed_held n (inl same) = is_some_by _ s.newest (held_at s n s.newest same refl)
  needed_held n (inr pinned) = held_pinned pinned.0 n pinned.1

  none_newest : get s.older s.number ≡ None
  none_newest = none_of (get s.older s.number) (λ some. let f = some_of (get s.older s.number) some in
      less_differ s.number s.number (are.below s.number f.0 f.1) refl)

  pub held_count : len (held s) ≡ len s.older + 1
  held_count =
      len-insert nat_cmp_total s.older s.number s.newest
      ∙ ap (λ o. cond (is_some o) (len s.older) (len s.older + 1)) none_newest

-- ---- nobody is pinned

pub fresh_needed : {F Fixed : Type 0} (fixed : F → Fixed) (number : ℕ) (state : F) (older : FinMap nat_cmp F)
    (pins : Pins) → older ≡ empty → pins ≡ empty
    → AreNeeded fixed (record { number = number; newest = state; older = older; pins = pins })
fresh_needed {F} fixed number state older pins none nobody =
    let no : (n : ℕ) (f : F) → get older n ≡ Some f → ⊥ =
    λ n f at. nothing_in n f (ap (λ m. get m n) (sym none) ∙ at) in
    let unpinned : (reader n : ℕ) → IsPinnedAt pins reader n → ⊥ =
    λ reader n at. nothing_in reader n (ap (λ m. get m reader) (sym nobody) ∙ at) in
    let count : len pins ≡ 0 = ap len nobody ∙ len-empty nat_cmp ℕ in record {
      below = λ n f at. absurd (no n f at);
      alike = λ n f at. absurd (no n f at);
      needed = λ n f at. absurd (no n f at);
      pinned = λ reader n at. absurd (unpinned reader n at);
      few = omega (arith, count);
    }

pub fresh_stands : {F : Type 0} (objects : F → Objects) (number : ℕ) (state : F) (older : FinMap nat_cmp F)
    (pins : Pins) → older ≡ empty → pins ≡ empty → (h : History) → number ≡ kept h → HasObjects h (objects state)
    → StandsFor objects (record { number = number; newest = state; older = older; pins = pins }) h empty
fresh_stands {F} objects number state older pins none nobody h is has = record {
  valid = λ reader n at. absurd (nothing_in reader n at);
  number = is;
  pinned = nobody;
  followed = λ n f at. elim (put_cases older number state n f at) [
    | inl same ↦
        subst (λ (g : F). HasObjects (up_to h n) (objects g)) same.1
        (subst (λ g. HasObjects g (objects state)) (sym (ap (up_to h) (same.0 ∙ is) ∙ all_of h)) has)
    | inr before ↦ absurd (nothing_in n f (ap (λ m. get m n) (sym none) ∙ before))
  ];
}
