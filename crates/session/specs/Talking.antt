-- What answers in a session, and what is said of it with its journal.
use Rattle.std.specs.Prelude.{◌≡◌, ℕ, List, Option}
use Rattle.road_io.specs.Outside.{Outside}
use Rattle.session_input.specs.declared.input.Input.{Input}
use Rattle.session_answers.specs.Replies.{Replies, Costs}
use Rattle.session.specs.declared.talk.Talk.{Talk}
use Rattle.session.specs.Conversation.{Kept}
use Rattle.session.specs.Conversing.{Keeps, IsKept}
use Rattle.session.specs.Following.{Goes}
use Rattle.session.specs.BuildingOn.{BuildsOn}

-- the part of what answers that no message alters
abbrev pub fixed_of : {A : _} {R : _} → Talk A R → R.Fixed
fixed_of {A} {R} talk = R.fixed talk.answerer

-- what lines are answered with
abbrev pub replies_of : {A : _} {R : _} → Talk A R → Replies R.Beside
replies_of {A} {R} talk = R.replies (R.fixed talk.answerer)

-- what changes cost
abbrev pub costs_of : {A : _} {R : _} → Talk A R → Costs
costs_of {A} {R} talk = R.costs (R.fixed talk.answerer)

-- what it keeps: what answers stands for it, and its journal is that of it
abbrev pub held : {A : _} {R : _} → Talk A R → Keeps R.Beside
held {A} {R} talk = IsKept (R.stands talk.answerer) talk.journal

-- what answers is the same, but for what messages alter
abbrev pub AnswersAs : {A : _} {R : _} → (start talk : Talk A R) → Type 0
AnswersAs start talk = fixed_of talk ≡ fixed_of start

-- the session that began so goes on, and this is what talks now
pub record IsGoing {A : _} {R : _} (start talk : Talk A R) (read : List ℕ) (input : Input) (before now : Option Outside)
    : Type 0 where
  pub same : AnswersAs start talk
  pub goes : Goes (replies_of start) (held start) read input (held talk) before now

-- the same, and what was built from one count to the other
pub record IsBuilding {A : _} {R : _} (start talk : Talk A R) (opening : Kept R.Beside) (read : List ℕ) (input : Input)
    (old new : ℕ) (v : Outside) : Type 0 where
  pub same : AnswersAs start talk
  pub builds : BuildsOn (costs_of start) opening read input (held talk) old new v
