-- The steps of the rule: pins, questions and releases.
use Rattle.std.proofs.Common.{◌≡◌, ◌∙◌, ◌⊎◌, inl, inr, ◌+◌, ◌-◌, ◌<◌, ◌≤◌, ℕ, Bool, true, false, cond, List}
use Rattle.std.proofs.Common.{refl, sym, ap}
use Rattle.std.proofs.Common.{subst, arith}
use Rattle.std.specs.Prelude.{Option, Some, None, is_some, IsSome}
use Rattle.std.specs.Option.{option_map}
use Rattle.std.specs.Ordering.{nat_cmp}
use Rattle.std.specs.Cmp.{nat_cmp_total}
use Rattle.std.specs.FinMap.{FinMap, get, insert, remove, len, len-insert, len-remove}
use Rattle.std.proofs.lemmas.Option.{none-some, same_Some}
use Rattle.road_base.specs.declared.ids.Sequence.{Sequence}
use Rattle.road_base.specs.Objects.{Objects}
use Rattle.road_base.specs.History.{History, kept}
use Rattle.road_model.specs.declared.follower.Question.{Question}
use Rattle.pinned_readers.specs.PinnedRuns.{Pins, IsPinnedAt, IsPinnedNumber, most_readers}
use Rattle.pinned_readers.specs.PinnedRuns.{IsPinStep, IsAskStep, IsReleaseStep, IsReplyTo, Busy, Full, Pinned}
use Rattle.pinned_readers.specs.Followers.{Followers, AreNeeded, StandsFor, Goes, IsDropped, held}
use Rattle.pinned_readers.proofs.NumberMaps.{put_cases, beside_put, cut_cases, beside_cut, same_or_apart}
use Rattle.pinned_readers.proofs.NumberMaps.{none_of, false_true}
use Rattle.pinned_readers.proofs.EarlierHistories.{base_kept, kept_up_to}
use Rattle.pinned_readers.proofs.HeldFollowers.{held_older, followed_still}

-- ---- what the table of pins answers

pub pinned_from : (pins : Pins) (reader : ℕ) (o : Option Sequence) (n : Sequence)
    → option_map (λ s. s.0) o ≡ get pins reader → o ≡ Some n → IsPinnedAt pins reader n.0
pinned_from pins reader o n told is = sym told ∙ ap (option_map (λ s. s.0)) is

pub unpinned_from : (pins : Pins) (reader : ℕ) (o : Option Sequence)
    → option_map (λ s. s.0) o ≡ get pins reader → o ≡ None → get pins reader ≡ None
unpinned_from pins reader o told is = sym told ∙ ap (option_map (λ s. s.0)) is

is_some_mapped : (o : Option Sequence) → is_some (option_map (λ s. s.0) o) ≡ is_some o
is_some_mapped None = refl
is_some_mapped (Some n) = refl

pub free_from : (pins : Pins) (reader : ℕ) (o : Option Sequence)
    → option_map (λ s. s.0) o ≡ get pins reader → is_some o ≡ false → get pins reader ≡ None
free_from pins reader o told none =
    none_of (get pins reader) (λ some. false_true (sym none ∙ sym (is_some_mapped o) ∙ ap is_some told ∙ some))

pub room : (pins : Pins) (n : ℕ) → n ≡ len pins → n < most_readers → len pins < most_readers
room pins n is fewer = subst (λ m. m < most_readers) is fewer

-- ---- pins

module _ {F : Type 0} (objects : F → Objects) (s : Followers F) (reader : ℕ) where
  pub busy : IsSome (get s.pins reader)
      → Goes objects s s (λ h pins then. IsPinStep h pins reader Busy then)
  busy some h pins stands =
      (pins, (subst (λ (p : Pins). IsSome (get p reader)) stands.pinned some, refl), stands)

  pub busy_from : (o : Option Sequence) → option_map (λ n. n.0) o ≡ get s.pins reader → is_some o ≡ true
      → Goes objects s s (λ h pins then. IsPinStep h pins reader Busy then)
  busy_from o told some = busy (ap is_some (sym told) ∙ is_some_mapped o ∙ some)

  pub full : get s.pins reader ≡ None → most_readers ≤ len s.pins
      → Goes objects s s (λ h pins then. IsPinStep h pins reader Full then)
  full none many h pins stands = (
    pins,
    (
      subst (λ (p : Pins). get p reader ≡ None) stands.pinned none,
      subst (λ (p : Pins). most_readers ≤ len p) stands.pinned many,
      refl,
    ),
    stands,
  )

  abbrev pub with_pin : Followers F
  with_pin = record { number = s.number; newest = s.newest; older = s.older; pins = insert s.pins reader s.number }

  newest_within : (h : History) (n : ℕ) → s.number ≡ n → s.number ≡ kept h → (h.base_number ≤ n) × (n ≤ kept h)
  newest_within h n same is =
      let base = base_kept h in (omega (arith, same, is, base), omega (arith, same, is))

  pin_stands : (h : History) (pins : Pins) → StandsFor objects s h pins
      → StandsFor objects with_pin h (insert pins reader s.number)
  pin_stands h pins stands = record {
    valid = λ r n at. elim (put_cases pins reader s.number r n at) [
      | inl same ↦ newest_within h n same.1 stands.number
      | inr before ↦ stands.valid r n before
    ];
    number = stands.number;
    pinned = ap (λ (p : Pins). insert p reader s.number) stands.pinned;
    followed = stands.followed;
  }

  pub pins_on : get s.pins reader ≡ None → len s.pins < most_readers
      → Goes objects s with_pin (λ h pins then. IsPinStep h pins reader (Pinned s.number) then)
  pins_on none room h pins stands = (
    insert pins reader s.number,
    (
      subst (λ (p : Pins). get p reader ≡ None) stands.pinned none,
      subst (λ (p : Pins). len p < most_readers) stands.pinned room,
      stands.number,
      refl,
    ),
    pin_stands h pins stands,
  )

  pub pins_needed : {Fixed : Type 0} (fixed : F → Fixed) → AreNeeded fixed s → get s.pins reader ≡ None
      → len s.pins < most_readers → AreNeeded fixed with_pin
  pins_needed fixed are none room =
      let count : len (insert s.pins reader s.number) ≡ len s.pins + 1 =
      len-insert nat_cmp_total s.pins reader s.number
      ∙ ap (λ o. cond (is_some o) (len s.pins) (len s.pins + 1)) none in record {
        below = are.below;
        alike = are.alike;
        needed = λ n f at. let p = are.needed n f at in (
          p.0,
          beside_put s.pins reader s.number p.0
              (λ same. none-some n (sym none ∙ ap (λ r. get s.pins r) (sym same) ∙ p.1)) ∙ p.1,
        );
        pinned = λ r n at. elim (put_cases s.pins reader s.number r n at) [
          | inl same ↦ inl (sym same.1)
          | inr before ↦ are.pinned r n before
        ];
        few = omega (arith, count, room);
      }

-- ---- questions

pub asked : {F Fixed : Type 0} (fixed : F → Fixed) (objects : F → Objects)
    (replies : Fixed → Objects → ℕ → Question → List ℕ → Type 0) (s : Followers F) (reader n : ℕ) (f : F)
    (q : Question) (r : List ℕ) → IsPinnedAt s.pins reader n → get (held s) n ≡ Some f → fixed f ≡ fixed s.newest
    → replies (fixed f) (objects f) n q r
    → (h : History) (pins : Pins) → StandsFor objects s h pins
    → IsAskStep (IsReplyTo (replies (fixed s.newest)) q) h pins reader (Some r)
asked fixed objects replies s reader n f q r at holds alike reply h pins stands =
    let pinned : IsPinnedAt pins reader n = subst (λ (p : Pins). IsPinnedAt p reader n) stands.pinned at in
    let within = stands.valid reader n pinned in (
      n,
      pinned,
      (
        objects f,
        stands.followed n f holds,
        subst (λ k. replies (fixed s.newest) (objects f) k q r) (sym (kept_up_to h n within.0 within.1))
            (subst (λ x. replies x (objects f) n q r) alike reply),
      ),
    )

pub not_asked : {F : Type 0} (objects : F → Objects) (s : Followers F) (reader : ℕ) → get s.pins reader ≡ None
    → (h : History) (pins : Pins) → StandsFor objects s h pins → get pins reader ≡ None
not_asked objects s reader none h pins stands = subst (λ (p : Pins). get p reader ≡ None) stands.pinned none

-- ---- releases

no_longer : (b : Bool) (n : ℕ) → n ≤ most_readers → cond b (n - 1) n ≤ most_readers
no_longer true n few = omega (arith, few)
no_longer false n few = few

module _ {F Fixed : Type 0} (fixed : F → Fixed) (s : Followers F) (are : AreNeeded fixed s) (reader n : ℕ)
    (at : IsPinnedAt s.pins reader n) (older : FinMap nat_cmp F)
    (dropped : IsDropped (remove s.pins reader) n s.older older) where
  abbrev pub without : Followers F
  without = record { number = s.number; newest = s.newest; older = older; pins = remove s.pins reader }

  was : (k : ℕ) (f : F) → get older k ≡ Some f → get s.older k ≡ Some f
  was k f here = elim dropped [
    | inl same ↦ ap (λ (m : FinMap nat_cmp F). get m k) (sym same.1) ∙ here
    | inr cut ↦ (cut_cases s.older n k f (ap (λ (m : FinMap nat_cmp F). get m k) (sym cut.1) ∙ here)).1
  ]

  still_needed : (k : ℕ) (f : F) → get older k ≡ Some f → IsPinnedNumber (remove s.pins reader) k
  still_needed k f here =
      let p = are.needed k f (was k f here) in elim (same_or_apart p.0 reader) [
        | inl same ↦
            let one : n ≡ k = same_Some n k (sym at ∙ ap (λ r. get s.pins r) (sym same) ∙ p.1) in elim dropped [
              | inl stays ↦ subst (λ m. IsPinnedNumber (remove s.pins reader) m) one stays.0
              | inr cut ↦ absurd ((cut_cases s.older n k f
                  (ap (λ (m : FinMap nat_cmp F). get m k) (sym cut.1) ∙ here)).0
                  (sym one))
            ]
        | inr apart ↦ (p.0, beside_cut s.pins reader p.0 apart.differ ∙ p.1)
      ]

  still_held : (r k : ℕ) → IsPinnedAt (remove s.pins reader) r k → (k ≡ s.number) ⊎ IsSome (get older k)
  still_held r k pinned = elim (are.pinned r k ((cut_cases s.pins reader r k pinned).1)) [
    | inl same ↦ inl same
    | inr some ↦ elim dropped [
      | inl stays ↦ inr (ap (λ (m : FinMap nat_cmp F). is_some (get m k)) stays.1 ∙ some)
      | inr cut ↦
          let differ : k ≡ n → ⊥ =
          λ same. cut.0 (subst (λ m. IsPinnedNumber (remove s.pins reader) m) same (r, pinned)) in
          inr (ap (λ (m : FinMap nat_cmp F). is_some (get m k)) cut.1
          ∙ ap is_some (beside_cut s.older n k differ) ∙ some)
    ]
  ]

  pub release_needed : AreNeeded fixed without
  release_needed = record {
    below = λ k f here. are.below k f (was k f here);
    alike = λ k f here. are.alike k f (was k f here);
    needed = still_needed;
    pinned = still_held;
    few = subst (λ m. m ≤ most_readers) (sym (len-remove nat_cmp_total s.pins reader))
        (no_longer (is_some (get s.pins reader)) (len s.pins) are.few);
  }

  pub released : (objects : F → Objects)
      → Goes objects s without (λ h pins then. IsReleaseStep pins reader (Some n) then)
  released objects h pins stands = (
    remove pins reader,
    (subst (λ (p : Pins). IsPinnedAt p reader n) stands.pinned at, refl),
    record {
      valid = λ r k here. stands.valid r k ((cut_cases pins reader r k here).1);
      number = stands.number;
      pinned = ap (λ (p : Pins). remove p reader) stands.pinned;
      followed = followed_still objects s h pins stands older (λ k f here. held_older fixed s are k f (was k f here));
    },
  )

pub not_released : {F : Type 0} (objects : F → Objects) (s : Followers F) (reader : ℕ) → get s.pins reader ≡ None
    → Goes objects s s (λ h pins then. IsReleaseStep pins reader None then)
not_released objects s reader none h pins stands =
    (pins, (subst (λ (p : Pins). get p reader ≡ None) stands.pinned none, refl), stands)
