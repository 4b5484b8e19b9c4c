-- The rule of readers who pin the newest state of a history and ask it while changes go on.
--
-- A state is a history H and a finite map from reader numbers to sequence numbers, each of which is at least the base
-- number of H and at most the number that H keeps. Every step keeps this.
--     pin K       where K is pinned: busy. Else where 64 readers are pinned: full. Else K is pinned at the number that
--                 H keeps, which is answered. The first two change nothing.
--     ask K q     where K isn't pinned: no pin. Else a reply to q for H without the changes numbered above K's number.
--                 Nothing changes.
--     release K   where K isn't pinned: no pin. Else K isn't pinned any more; answers the number that was pinned.
-- A change that is accepted goes behind H; the pins stay.
use Rattle.std.specs.Prelude.{◌≡◌, ℕ, ◌-◌, ◌<◌, ◌≤◌, List, take, Option, Some, None, IsSome}
use Rattle.std.specs.Ordering.{nat_cmp}
use Rattle.std.specs.FinMap.{FinMap, get, insert, remove, len}
use Rattle.road_base.specs.Objects.{Objects}
use Rattle.road_base.specs.History.{History, HasObjects, kept}
use Rattle.road_model.specs.declared.follower.Question.{Question}

-- which readers are pinned, each with its number
abbrev pub Pins : Type 0
Pins = FinMap nat_cmp ℕ

-- the reader is pinned at the number
abbrev pub IsPinnedAt : Pins → (reader n : ℕ) → Type 0
IsPinnedAt pins reader n = get pins reader ≡ Some n

-- some reader is pinned at the number
abbrev pub IsPinnedNumber : Pins → ℕ → Type 0
IsPinnedNumber pins n = (reader : ℕ) × IsPinnedAt pins reader n

-- each number lies between that of the base and the one that the history keeps
abbrev pub IsState : History → Pins → Type 0
IsState h pins = (reader n : ℕ) → IsPinnedAt pins reader n → (h.base_number ≤ n) × (n ≤ kept h)

-- the history without the changes numbered above n
abbrev pub up_to : History → ℕ → History
up_to h n = record {
  profile = h.profile;
  base_number = h.base_number;
  base_events = h.base_events;
  changes = take (n - h.base_number) h.changes;
}

-- how many readers may be pinned
abbrev pub most_readers : ℕ
most_readers = 64

-- what a pin is answered: the reader is pinned already, too many are pinned, or it is pinned now at that number
pub data PinAnswer : Type 0 where
  Busy : PinAnswer
  Full : PinAnswer
  Pinned : ℕ → PinAnswer

-- what a pin is answered, and the pins behind it
abbrev pub IsPinStep : History → Pins → (reader : ℕ) → PinAnswer → Pins → Type 0
IsPinStep h pins reader Busy then = IsSome (get pins reader) × (then ≡ pins)
IsPinStep h pins reader Full then = (get pins reader ≡ None) × (most_readers ≤ len pins) × (then ≡ pins)
IsPinStep h pins reader (Pinned n) then =
    (get pins reader ≡ None) × (len pins < most_readers) × (n ≡ kept h) × (then ≡ insert pins reader n)

-- what is asked of a pinned reader is answered for the history up to its number; nothing where it isn't pinned
abbrev pub IsAskStep : (History → List ℕ → Type 0) → History → Pins → (reader : ℕ) → Option (List ℕ) → Type 0
IsAskStep IsReply h pins reader None = get pins reader ≡ None
IsAskStep IsReply h pins reader (Some out) = (n : ℕ) × IsPinnedAt pins reader n × IsReply (up_to h n) out

-- the number that was pinned, nothing where the reader wasn't pinned; and the pins behind the release
abbrev pub IsReleaseStep : Pins → (reader : ℕ) → Option ℕ → Pins → Type 0
IsReleaseStep pins reader None then = (get pins reader ≡ None) × (then ≡ pins)
IsReleaseStep pins reader (Some n) then = IsPinnedAt pins reader n × (then ≡ remove pins reader)

-- a reply to the question for a history: one for its objects and the number that it keeps
abbrev pub IsReplyTo : (Objects → ℕ → Question → List ℕ → Type 0) → Question → History → List ℕ → Type 0
IsReplyTo replies question h out = (M : Objects) × HasObjects h M × replies M (kept h) question out
