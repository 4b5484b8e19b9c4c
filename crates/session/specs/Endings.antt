-- How a session ends behind whole messages, and what it gives for the bytes that it reads.
use Rattle.std.specs.Prelude.{◌≡◌, ◌≢◌, ◌⊎◌, ℕ, ◌≤◌, ◌^◌, List, [], ◌∷◌, ◌++◌, length, codes, Bool, true}
use Rattle.opl_lexer.specs.Letters.{newline}
use Rattle.session_input.specs.Messages.{Message, IsMessage, BeginsFrame}
use Rattle.session_input.specs.Limits.{IsTaken, IsPending, IsStopped}
use Rattle.session_answers.specs.Replies.{Replies}
use Rattle.session_answers.specs.Texts.{unfinished_line}
use Rattle.session.specs.declared.end.End.{End}
use Rattle.session.specs.declared.end.End.TheVariants.{Done, Unfinished, ReadFault, Limit}
use Rattle.session.specs.Conversation.{Kept, Conversed, Replied, IsFull}

-- `limit`, with its newline
abbrev pub limit_line : List ℕ
limit_line = codes "limit" ++ newline ∷ []

-- the bytes are a message whose last line has no newline
pub record IsLast (message : Message) (bytes : List ℕ) : Type 0 where
  pub some : bytes ≢ []
  pub is : IsMessage message (bytes ++ newline ∷ [])

-- the bytes are a frame that isn't ended, also not by a last line without a newline
pub record IsUnfinished (number : ℕ) (bytes : List ℕ) : Type 0 where
  pub body : List ℕ
  pub front : List ℕ
  pub begins : BeginsFrame number body front
  pub all : (front ≡ bytes) ⊎ (front ≡ bytes ++ newline ∷ [])

-- A limit is passed in the last part of the bytes, which has at most 2^16 of them; those before it are no whole message
-- yet, within the limits.
pub record IsStoppedAtLast (before : ℕ) (bytes : List ℕ) : Type 0 where
  pub pending : List ℕ
  pub part : List ℕ
  pub is : bytes ≡ pending ++ part
  pub open_bytes : IsPending before pending
  pub small : length part ≤ 2 ^ 16
  pub stopped : IsStopped before bytes

-- How a session ends that read these bytes behind whole messages, so many bytes before, and no others: what it says
-- last, and what is kept then. `ended` says that the source ended behind them: without a newline a last line counts
-- there alone.
pub data EndsSaying {B : Type 0} (R : Replies B) (from : Kept B) (before : ℕ) (rest : List ℕ) (ended : Bool) (end : End)
    (out : List ℕ) (to : Kept B) : Type 0 where
  OfEnd : ended ≡ true → rest ≡ [] → end ≡ Done → out ≡ [] → to ≡ from → EndsSaying R from before rest ended end out to
  OfLast : ended ≡ true → IsPending before rest → (message : Message) → IsLast message rest
      → Replied R from message out to → end ≡ Done → EndsSaying R from before rest ended end out to
  OfUnfinished : ended ≡ true → IsPending before rest → (number : ℕ) → IsUnfinished number rest
      → end ≡ Unfinished → out ≡ unfinished_line number → to ≡ from → EndsSaying R from before rest ended end out to
  OfTooMuch : IsStoppedAtLast before rest → end ≡ Limit → out ≡ limit_line → to ≡ from
      → EndsSaying R from before rest ended end out to
  OfFull : (message : Message) (taken more : List ℕ) → rest ≡ taken ++ more → IsTaken before message taken
      → length more ≤ 2 ^ 16 → IsFull from message → end ≡ Limit → out ≡ limit_line → to ≡ from
      → EndsSaying R from before rest ended end out to
  OfFullLast : ended ≡ true → IsPending before rest → (message : Message) → IsLast message rest → IsFull from message
      → end ≡ Limit → out ≡ limit_line → to ≡ from → EndsSaying R from before rest ended end out to
  OfReadFault : IsPending before rest → end ≡ ReadFault → out ≡ [] → to ≡ from
      → EndsSaying R from before rest ended end out to

-- What a session gives for the bytes that it read, behind which its source ended or didn't, where neither the site
-- fails nor memory ends: how it ends, all that it says, and what is kept then.
pub record SessionGives {B : Type 0} (R : Replies B) (opening : Kept B) (read : List ℕ) (ended : Bool) (end : End)
    (out : List ℕ) (to : Kept B) : Type 0 where
  pub front : List ℕ
  pub rest : List ℕ
  pub is : read ≡ front ++ rest
  pub said : List ℕ
  pub from : Kept B
  pub so_far : Conversed R opening front said from
  pub last : List ℕ
  pub ends : EndsSaying R from (length front) rest ended end last to
  pub all : out ≡ said ++ last

-- ---- what is said next

-- What a session that read these bytes says next, behind whole messages: the reply to the next message, or what it
-- says last, or nothing; and what is kept then.
pub data SaysNext {B : Type 0} (R : Replies B) (from : Kept B) (before : ℕ) (rest : List ℕ) (ended : Bool)
    (reply : List ℕ) (to : Kept B) : Type 0 where
  OfMessage : (message : Message) (taken more : List ℕ) → rest ≡ taken ++ more → IsTaken before message taken
      → Replied R from message reply to → SaysNext R from before rest ended reply to
  OfEnding : (end : End) → EndsSaying R from before rest ended end reply to
      → SaysNext R from before rest ended reply to
  OfNothing : reply ≡ [] → to ≡ from → SaysNext R from before rest ended reply to

-- a front of the bytes is whole messages, whose replies are `said`, and this is said next
pub record Comes {B : Type 0} (R : Replies B) (opening : Kept B) (read : List ℕ) (ended : Bool) (said : List ℕ)
    (from : Kept B) (reply : List ℕ) (to : Kept B) : Type 0 where
  pub front : List ℕ
  pub rest : List ℕ
  pub is : read ≡ front ++ rest
  pub so_far : Conversed R opening front said from
  pub next : SaysNext R from (length front) rest ended reply to
