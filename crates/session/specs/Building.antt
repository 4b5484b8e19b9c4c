-- How many blocks a session builds behind its opening: for each accepted frame no more than its change costs.
use Rattle.std.specs.Prelude.{◌≡◌, ◌⊎◌, ℕ, ◌+◌, ◌≤◌, List, [], ◌++◌, length, Option, Some}
use Rattle.road_base.specs.History.{HasObjects}
use Rattle.road_base.specs.Objects.{Objects}
use Rattle.road_io.specs.Outside.{Outside}
use Rattle.session_input.specs.Messages.{Message, Line, Frame}
use Rattle.session_input.specs.Limits.{IsTaken, IsPending}
use Rattle.session_answers.specs.Replies.{Costs}
use Rattle.session.specs.Conversation.{Kept, FrameReplied, Accepted, OutOfSequence, Faulty, with_beside}
use Rattle.session.specs.Conversing.{Keeps}
use Rattle.session.specs.Endings.{IsLast}

-- what the change of a frame costs; one that is refused costs nothing
abbrev pub FrameCosts : Costs → {B : Type 0} {from : Kept B} {number : ℕ} {body out : List ℕ} {to : Kept B}
    → FrameReplied from number body out to → ℕ → Type 0
FrameCosts C {B} {from} (Accepted events is o t) n = (M : Objects) × HasObjects from.history M × C M events n
FrameCosts C {B} (OutOfSequence other o t) n = n ≡ 0
FrameCosts C {B} (Faulty next fault is o t) n = n ≡ 0

-- what a message costs, and what is kept then
abbrev pub MessageCosts : Costs → {B : Type 0} → Kept B → Message → Kept B → ℕ → Type 0
MessageCosts C {B} from (Line text) to n = (n ≡ 0) × (beside : B) × (to ≡ with_beside from beside)
MessageCosts C {B} from (Frame number body) to n =
    (out : List ℕ) × (replied : FrameReplied from number body out to) × FrameCosts C replied n

-- The bytes are whole messages, each within the limits. This is kept then, and so much they cost in all.
pub data Costed (C : Costs) {B : Type 0} (opening : Kept B) : List ℕ → Kept B → ℕ → Type 0 where
  Start : Costed C opening [] opening 0
  Go : (front taken bytes : List ℕ) (from to : Kept B) (message : Message) (n more : ℕ) → Costed C opening front from n
      → IsTaken (length front) message taken → MessageCosts C from message to more → bytes ≡ front ++ taken
      → Costed C opening bytes to (n + more)

-- from one count to the other it rose by no more than the messages of a front of what was read cost
pub record BuildsFew (C : Costs) {B : Type 0} (opening : Kept B) (read : List ℕ) (old new : ℕ) : Type 0 where
  pub front : List ℕ
  pub rest : List ℕ
  pub is : read ≡ front ++ rest
  pub from : Kept B
  pub n : ℕ
  pub costed : Costed C opening front from n
  pub few : new ≤ old + n

-- The same where one message more ends what was read, within the limits, whose last line has no newline.
pub record BuildsLast (C : Costs) {B : Type 0} (opening : Kept B) (read : List ℕ) (old new : ℕ) : Type 0 where
  pub front : List ℕ
  pub rest : List ℕ
  pub is : read ≡ front ++ rest
  pub from : Kept B
  pub n : ℕ
  pub costed : Costed C opening front from n
  pub message : Message
  pub to : Kept B
  pub pending : IsPending (length front) rest
  pub ends : IsLast message rest
  pub last : ℕ
  pub costs : MessageCosts C from message to last
  pub few : new ≤ old + (n + last)

-- What is built for the bytes that were read. A last line without a newline ends a message only where the source ended
-- there: none of its bytes is left, and no read failed.
abbrev pub BuildsOf : Costs → {B : Type 0} → Kept B → List ℕ → (behind : List ℕ) → (no_read_failed : Type 0) → ℕ → ℕ
    → Type 0
BuildsOf C {B} opening read behind no_read_failed old new =
    BuildsFew C opening read old new ⊎ ((behind ≡ []) × no_read_failed × BuildsLast C opening read old new)

-- A session builds for each accepted frame whole in what was read no more blocks than its change costs. It is said
-- where source and site tell.
abbrev pub SessionBuilds : Costs → {B : Type 0} → (Opens : Keeps B) → (no_read_failed : Type 0) → Option (List ℕ)
    → Option (List ℕ) → Option Outside → ℕ → ℕ → Type 0
SessionBuilds C {B} Opens no_read_failed held remaining before old new =
    (bytes behind : List ℕ) (w : Outside) (opening : Kept B)
    → held ≡ Some bytes → remaining ≡ Some behind → before ≡ Some w → Opens opening w
    → (read : List ℕ) × (bytes ≡ read ++ behind) × BuildsOf C opening read behind no_read_failed old new
