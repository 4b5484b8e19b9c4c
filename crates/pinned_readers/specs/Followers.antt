-- What contracts see of readers with the followers that are held for them, and for which states of the rule they stand.
use Rattle.std.specs.Prelude.{◌≡◌, ◌⊎◌, ℕ, ◌<◌, ◌≤◌, Option, Some, None, IsSome, refl}
use Rattle.std.specs.Coded.{Coded, code_by, coded×, coded_ℕ}
use Rattle.std.specs.Ordering.{nat_cmp}
use Rattle.std.specs.FinMap.{FinMap, get, insert, remove, len, code}
use Rattle.std.specs.declared.result.Result.{Result}
use Rattle.std.specs.declared.result.Result.TheVariants.{Ok, Err}
use Rattle.road_base.specs.declared.ids.Sequence.{Sequence}
use Rattle.road_base.specs.Objects.{Objects}
use Rattle.road_base.specs.History.{History, HasObjects, kept}
use Rattle.pinned_readers.specs.declared.errors.PinError.{PinError}
use Rattle.pinned_readers.specs.declared.errors.PinError.TheVariants.{Busy as IsBusy, Full as IsFull, NoMemory}
use Rattle.pinned_readers.specs.declared.errors.NoPin.{NoPin}
use Rattle.pinned_readers.specs.PinnedRuns.{Pins, IsPinnedAt, IsPinnedNumber, IsState, most_readers, up_to}
use Rattle.pinned_readers.specs.PinnedRuns.{PinAnswer, Busy, Full, Pinned}

-- the newest number with its follower, those of the older numbers that are pinned, and the pins
pub record Followers (F : Type 0) : Type 0 where
  pub number : ℕ
  pub newest : F
  pub older : FinMap nat_cmp F
  pub pins : Pins

-- by which a proof tells two of them apart
abbrev pub coded_followers : {F : Type 0} → Coded F → Coded (Followers F)
coded_followers {F} coded =
    code_by _
    (coded× coded_ℕ (coded× coded (coded× (code coded_ℕ coded) (code coded_ℕ coded_ℕ))))
    (λ s. (s.number, (s.newest, (s.older, s.pins))))
    (λ p. record { number = p.0; newest = p.1.0; older = p.1.1.0; pins = p.1.1.1 })
    (λ _. refl)

-- all followers that are held, each at its number
abbrev pub held : {F : Type 0} → Followers F → FinMap nat_cmp F
held s = insert s.older s.number s.newest

-- Held are the newest follower and one at each older number that is pinned, all with the same part that no change
-- touches.
pub record AreNeeded {F Fixed : Type 0} (fixed : F → Fixed) (s : Followers F) : Type 0 where
  pub below : (n : ℕ) (f : F) → get s.older n ≡ Some f → n < s.number
  pub alike : (n : ℕ) (f : F) → get s.older n ≡ Some f → fixed f ≡ fixed s.newest
  pub needed : (n : ℕ) (f : F) → get s.older n ≡ Some f → IsPinnedNumber s.pins n
  pub pinned : (reader n : ℕ) → IsPinnedAt s.pins reader n → (n ≡ s.number) ⊎ IsSome (get s.older n)
  pub few : len s.pins ≤ most_readers

-- They stand for a state of the rule: the newest number is the one that the history keeps, and the follower at each
-- number has the objects of the history without the changes above it.
pub record StandsFor {F : Type 0} (objects : F → Objects) (s : Followers F) (h : History) (pins : Pins) : Type 0 where
  pub valid : IsState h pins
  pub number : s.number ≡ kept h
  pub pinned : s.pins ≡ pins
  pub followed : (n : ℕ) (f : F) → get (held s) n ≡ Some f → HasObjects (up_to h n) (objects f)

-- from each state for which the old ones stand, a step of the rule leads to one for which the new ones stand
abbrev pub Goes : {F : Type 0} → (F → Objects) → (old new : Followers F) → (History → Pins → Pins → Type 0) → Type 0
Goes objects old new IsStep = (h : History) (pins : Pins)
    → StandsFor objects old h pins
    → (then : Pins) × IsStep h pins then × StandsFor objects new h then

-- the follower at the number isn't held any more, if nobody is pinned there
abbrev pub IsDropped : {F : Type 0} → Pins → ℕ → (old new : FinMap nat_cmp F) → Type 0
IsDropped pins n old new =
    (IsPinnedNumber pins n × (new ≡ old)) ⊎ ((IsPinnedNumber pins n → ⊥) × (new ≡ remove old n))

-- the follower is held at the number, if somebody is pinned there
abbrev pub IsKept : {F : Type 0} → Pins → ℕ → F → (old new : FinMap nat_cmp F) → Type 0
IsKept pins n f old new =
    (IsPinnedNumber pins n × (new ≡ insert old n f)) ⊎ ((IsPinnedNumber pins n → ⊥) × (new ≡ old))

-- what a pin answers in the rule's words; nothing where no memory was found
abbrev pub pin_answer : Result Sequence PinError → Option PinAnswer
pin_answer (Ok n) = Some (Pinned n.0)
pin_answer (Err IsBusy) = Some Busy
pin_answer (Err IsFull) = Some Full
pin_answer (Err NoMemory) = None

-- what a release answers in the rule's words
abbrev pub release_answer : Result Sequence NoPin → Option ℕ
release_answer (Ok n) = Some n.0
release_answer (Err e) = None
