-- What the answer to one message builds, and what was built while a session goes on.
use Rattle.std.specs.Prelude.{◌≡◌, ◌⊎◌, ℕ, ◌+◌, ◌≤◌, List, ◌++◌, length, Result, Ok, Err}
use Rattle.road_io.specs.Outside.{Outside}
use Rattle.session_input.specs.declared.input.Input.{Input}
use Rattle.session_input.specs.Messages.{Message}
use Rattle.session_input.specs.Holding.{Holds}
use Rattle.session_answers.specs.Replies.{Costs}
use Rattle.session.specs.declared.stop.Stop.{Stop}
use Rattle.session.specs.Conversation.{Kept}
use Rattle.session.specs.Conversing.{Keeps}
use Rattle.session.specs.Building.{MessageCosts, Costed}

-- the message costs nothing, and this is kept behind it
pub record CostsNothing (C : Costs) {B : Type 0} (from : Kept B) (message : Message) (Has : Keeps B) (v : Outside)
    : Type 0 where
  pub to : Kept B
  pub costs : MessageCosts C from message to 0
  pub kept : Has to v

-- from one count to the other no block was built, or no more than the message costs
abbrev pub MessageBuilds : Costs → {B : Type 0} → Kept B → Message → ℕ → ℕ → Type 0
MessageBuilds C {B} from message old new =
    (new ≡ old) ⊎ ((to : Kept B) × (n : ℕ) × MessageCosts C from message to n × (new ≤ old + n))

-- the message was answered: no more blocks were built than it costs, and this is kept then
pub record IsBuiltFor (C : Costs) {B : Type 0} (from : Kept B) (message : Message) (Has : Keeps B) (old new : ℕ)
    (v : Outside) : Type 0 where
  pub to : Kept B
  pub n : ℕ
  pub costs : MessageCosts C from message to n
  pub few : new ≤ old + n
  pub kept : Has to v

-- what the answer to a message builds, whether it could be given or not
abbrev pub AnswerBuilds : Costs → {B : Type 0} → Kept B → Message → (Has : Keeps B) → Result (Unit {0}) Stop → ℕ → ℕ
    → Outside → Type 0
AnswerBuilds C {B} from message Has (Ok x) old new v = IsBuiltFor C from message Has old new v
AnswerBuilds C {B} from message Has (Err stop) old new v = MessageBuilds C from message old new

-- The session goes on: a front of what was read is whole messages, all answered, and the input holds the bytes behind
-- it. From one count to the other no more blocks were built than these messages cost.
pub record BuildsOn (C : Costs) {B : Type 0} (opening : Kept B) (read : List ℕ) (input : Input) (Has : Keeps B)
    (old new : ℕ) (v : Outside) : Type 0 where
  pub front : List ℕ
  pub pending : List ℕ
  pub is : read ≡ front ++ pending
  pub holds : Holds (length front) pending input
  pub from : Kept B
  pub n : ℕ
  pub costed : Costed C opening front from n
  pub few : new ≤ old + n
  pub kept : Has from v
