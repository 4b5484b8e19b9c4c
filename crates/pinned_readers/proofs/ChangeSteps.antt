-- A change that is accepted.
use Rattle.std.proofs.Common.{◌≡◌, ◌∙◌, inl, inr, ◌+◌, ◌<◌, ◌≤◌, ℕ, List, sym, ap, subst, arith}
use Rattle.std.specs.Prelude.{Some, is_some, IsSome}
use Rattle.std.specs.Ordering.{nat_cmp}
use Rattle.std.specs.FinMap.{FinMap, get, insert}
use Rattle.road_base.specs.declared.event.Event.{Event}
use Rattle.road_base.specs.Objects.{Objects}
use Rattle.road_base.specs.Applying.{IsApplied}
use Rattle.road_base.specs.History.{History, HasObjects, kept, with_change}
use Rattle.pinned_readers.specs.PinnedRuns.{Pins, IsPinnedAt, IsPinnedNumber, up_to}
use Rattle.pinned_readers.specs.Followers.{Followers, AreNeeded, StandsFor, IsKept, held}
use Rattle.pinned_readers.proofs.NumberMaps.{at_put, put_cases, beside_put, some_of}
use Rattle.pinned_readers.proofs.EarlierHistories.{all_of, before_change}
use Rattle.pinned_readers.proofs.HeldFollowers.{less_differ, held_at, held_older, newest_objects}

module _ {F Fixed : Type 0} (fixed : F → Fixed) (s : Followers F) (are : AreNeeded fixed s) (older : FinMap nat_cmp F)
    (keeps : IsKept s.pins s.number s.newest s.older older) (next : F) where
  abbrev pub after : Followers F
  after = record { number = s.number + 1; newest = next; older = older; pins = s.pins }

  -- who is held at a number was held there before, and somebody is pinned there
  record Stays (n : ℕ) (f : F) : Type 0 where
    within : n ≤ s.number
    alike : fixed f ≡ fixed s.newest
    needed : IsPinnedNumber s.pins n
    before : get (held s) n ≡ Some f

  stays_older : (n : ℕ) (f : F) → get s.older n ≡ Some f → Stays n f
  stays_older n f at =
      let below = are.below n f at in record {
        within = omega (arith, below);
        alike = are.alike n f at;
        needed = are.needed n f at;
        before = held_older fixed s are n f at;
      }

  stays : (n : ℕ) (f : F) → get older n ≡ Some f → Stays n f
  stays n f here = elim keeps [
    | inl kept ↦
        elim (put_cases s.older s.number s.newest n f (ap (λ (m : FinMap nat_cmp F). get m n) (sym kept.1) ∙ here)) [
          | inl same ↦ record {
            within = omega (arith, same.0);
            alike = ap fixed (sym same.1);
            needed = subst (λ k. IsPinnedNumber s.pins k) (sym same.0) kept.0;
            before = held_at s n f same.0 same.1;
          }
          | inr at ↦ stays_older n f at
        ]
    | inr same ↦ stays_older n f (ap (λ (m : FinMap nat_cmp F). get m n) (sym same.1) ∙ here)
  ]

  still_held : (reader n : ℕ) → IsPinnedAt s.pins reader n → IsSome (get older n)
  still_held reader n at = elim keeps [
    | inl kept ↦ ap (λ (m : FinMap nat_cmp F). is_some (get m n)) kept.1 ∙ elim (are.pinned reader n at) [
      | inl same ↦ ap (λ k. is_some (get (insert s.older s.number s.newest) k)) same
          ∙ ap is_some (at_put s.older s.number s.newest)
      | inr some ↦
          let f = some_of (get s.older n) some in
          ap is_some (beside_put s.older s.number s.newest n (less_differ n s.number (are.below n f.0 f.1))) ∙ some
    ]
    | inr same ↦ ap (λ (m : FinMap nat_cmp F). is_some (get m n)) same.1 ∙ elim (are.pinned reader n at) [
      | inl newest ↦ absurd (same.0 (reader, subst (λ k. IsPinnedAt s.pins reader k) newest at))
      | inr some ↦ some
    ]
  ]

  next_below : (n : ℕ) → n ≤ s.number → n < s.number + 1
  next_below n within = omega (arith, within)

  pub change_needed : fixed next ≡ fixed s.newest → AreNeeded fixed after
  change_needed same = record {
    below = λ n f here. next_below n ((stays n f here).within);
    alike = λ n f here. (stays n f here).alike ∙ sym same;
    needed = λ n f here. (stays n f here).needed;
    pinned = λ reader n at. inr (still_held reader n at);
    few = are.few;
  }

  -- what histories have to tell of a change behind them
  pub record Grows (objects : F → Objects) (change : List Event) : Type 0 where
    pub applied : IsApplied (objects s.newest) change (objects next)
    pub grows : (h : History) (events : List Event) (M N : Objects) → HasObjects h M → IsApplied M events N
        → HasObjects (with_change h events) N
    pub counts : (h : History) (events : List Event) → kept (with_change h events) ≡ kept h + 1

  module _ (objects : F → Objects) (change : List Event) (more : Grows objects change) (h : History) (pins : Pins)
      (stands : StandsFor objects s h pins) where
    then_kept : s.number + 1 ≡ kept (with_change h change)
    then_kept = ap (λ n. n + 1) stands.number ∙ sym (more.counts h change)

    within_then : (n : ℕ) → n ≤ kept h → n ≤ kept (with_change h change)
    within_then n within = let count = more.counts h change in omega (arith, count, within)

    within_before : (n : ℕ) → n ≤ s.number → n ≤ kept h
    within_before n within = let is = stands.number in omega (arith, is, within)

    then_has : HasObjects (with_change h change) (objects next)
    then_has =
        more.grows h change (objects s.newest) (objects next) (newest_objects objects s h pins stands) more.applied

    then_followed : (n : ℕ) (f : F) → get (held after) n ≡ Some f
        → HasObjects (up_to (with_change h change) n) (objects f)
    then_followed n f here = elim (put_cases older (s.number + 1) next n f here) [
      | inl same ↦
          subst (λ (g : F). HasObjects (up_to (with_change h change) n) (objects g)) same.1
          (subst (λ g. HasObjects g (objects next))
          (sym (ap (up_to (with_change h change)) (same.0 ∙ then_kept) ∙ all_of (with_change h change))) then_has)
      | inr before ↦
          let was = stays n f before in
          subst (λ g. HasObjects g (objects f)) (sym (before_change h change n (within_before n was.within)))
          (stands.followed n f was.before)
    ]

    pub change_stands : StandsFor objects after (with_change h change) pins
    change_stands = record {
      valid = λ reader n at. let before = stands.valid reader n at in (before.0, within_then n before.1);
      number = then_kept;
      pinned = stands.pinned;
      followed = then_followed;
    }
