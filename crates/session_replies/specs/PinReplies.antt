-- What is replied to a message about pins, and what is pinned then: a step of the rule of pinned readers.
use Rattle.std.specs.Prelude.{◌≡◌, ℕ, List, Option}
use Rattle.road_base.specs.Objects.{Objects}
use Rattle.road_base.specs.History.{History}
use Rattle.road_model.specs.declared.follower.Question.{Question}
use Rattle.pinned_readers.specs.PinnedRuns.{Pins, PinAnswer, IsPinStep, IsAskStep, IsReleaseStep, IsReplyTo}
use Rattle.session_replies.specs.declared.pin_messages.PinMessage.{PinMessage}
use Rattle.session_replies.specs.declared.pin_messages.PinMessage.TheVariants.{Pin, Release, Ask}
use Rattle.session_replies.specs.PinTexts.{pin_line, release_line, ask_line}

-- Where questions get these replies, over objects and their kept number. A pin or a release is told by its line. What
-- is asked of a reader is answered for the history that it has pinned.
abbrev pub IsPinReply : (replies : Objects → ℕ → Question → List ℕ → Type 0) → History → Pins → PinMessage → List ℕ
    → (then : Pins) → Type 0
IsPinReply replies h pins (Pin reader) out then =
    (answer : PinAnswer) × IsPinStep h pins reader answer then × (out ≡ pin_line reader answer)
IsPinReply replies h pins (Release reader) out then =
    (answer : Option ℕ) × IsReleaseStep pins reader answer then × (out ≡ release_line reader answer)
IsPinReply replies h pins (Ask reader question) out then =
    (answer : Option (List ℕ)) × IsAskStep (IsReplyTo replies question) h pins reader answer
    × (out ≡ ask_line reader answer) × (then ≡ pins)
