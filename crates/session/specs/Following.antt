-- What stands while a session goes on, and what stands where it doesn't.
use Rattle.std.specs.Prelude.{◌≡◌, ℕ, ◌≤◌, ◌^◌, List, ◌++◌, length, Option, IfSome, Bool}
use Rattle.road_io.specs.Told.{Told}
use Rattle.road_io.specs.Outside.{Outside, Left, LeavesOnly}
use Rattle.sequence_journal.specs.declared.journal.Journal.{Journal}
use Rattle.store_switch.specs.LiveFile.{reads_of}
use Rattle.store_switch.specs.TwoFiles.{IsOnStore}
use Rattle.session_input.specs.declared.input.Input.{Input}
use Rattle.session_input.specs.Holding.{Holds}
use Rattle.session_answers.specs.Replies.{Replies}
use Rattle.session.specs.declared.end.End.{End}
use Rattle.session.specs.declared.end.End.TheVariants.{Done, Unfinished, ReadFault, SiteFault as SiteFaultEnd}
use Rattle.session.specs.declared.end.End.TheVariants.{Limit as LimitEnd, NoMemory as NoMemoryEnd}
use Rattle.session.specs.declared.stop.Stop.{Stop}
use Rattle.session.specs.declared.stop.Stop.TheVariants.{SiteFault, Limit, NoMemory}
use Rattle.session.specs.Conversation.{Kept, Conversed}
use Rattle.session.specs.Endings.{EndsSaying, limit_line}
use Rattle.session.specs.Conversing.{Keeps, IsReadyAt, LeavesSession, PutsFront}

-- a stop leaves what it leaves in a session that read these bytes, whatever it reads behind them, and wherever its
-- source ends
abbrev pub LeavesStill : {B : Type 0} → Replies B → Kept B → List ℕ → Outside → Left → Type 0
LeavesStill {B} R opening read w left =
    (more : List ℕ) (ended : Bool) → LeavesSession R opening (read ++ more) ended w left

-- The front of the bytes that were read is whole messages. All of them are answered, and `Has` says what is kept.
pub record Talks {B : Type 0} (R : Replies B) (opening : Kept B) (front read : List ℕ) (Has : Keeps B) (w v : Outside)
    : Type 0 where
  pub said : List ℕ
  pub from : Kept B
  pub so_far : Conversed R opening front said from
  pub kept : Has from v
  pub grows : v.output ≡ w.output ++ said
  pub only : LeavesOnly w v (LeavesStill R opening read w)

-- where the site tells, this holds for all with which the session may open
abbrev pub Since : {B : Type 0} → (Opens : Keeps B) → (Kept B → Outside → Outside → Type 0) → Option Outside
    → Option Outside → Type 0
Since {B} Opens S before now = Told (λ w v. (opening : Kept B) → Opens opening w → S opening w v) before now

-- the session goes on: these bytes were read, and the input holds those behind the last whole message
pub record Goes {B : Type 0} (R : Replies B) (Opens : Keeps B) (read : List ℕ) (input : Input) (Has : Keeps B)
    (before now : Option Outside) : Type 0 where
  pub front : List ℕ
  pub pending : List ℕ
  pub is : read ≡ front ++ pending
  pub holds : Holds (length front) pending input
  pub opens : IfSome before (IsReadyAt Opens)
  pub talks : Since Opens (λ opening w v. Talks R opening front read Has w v) before now

-- All messages of a front are answered, and this is to be said last.
pub record Closes {B : Type 0} (R : Replies B) (opening : Kept B) (read : List ℕ) (ended : Bool) (end : End)
    (last : List ℕ) (w v : Outside) : Type 0 where
  pub front : List ℕ
  pub rest : List ℕ
  pub is : read ≡ front ++ rest
  pub said : List ℕ
  pub from : Kept B
  pub so_far : Conversed R opening front said from
  pub ends : EndsSaying R from (length front) rest ended end last from
  pub journal : Journal
  pub on_store : IsOnStore journal from.history v
  pub small : length (reads_of v journal.file) ≤ 2 ^ 40
  pub grows : v.output ≡ w.output ++ said
  pub only : LeavesOnly w v (LeavesSession R opening read ended w)

-- a front of what is given was put
pub record Breaks {B : Type 0} (R : Replies B) (opening : Kept B) (read : List ℕ) (ended : Bool) (w v : Outside)
    : Type 0 where
  pub puts : PutsFront R opening read ended w v
  pub only : LeavesOnly w v (LeavesSession R opening read ended w)

-- why the session doesn't go on
abbrev pub Halts : {B : Type 0} → Replies B → Kept B → List ℕ → Bool → Stop → Outside → Outside → Type 0
Halts {B} R opening read ended SiteFault w v = Breaks R opening read ended w v
Halts {B} R opening read ended Limit w v = Closes R opening read ended LimitEnd limit_line w v
Halts {B} R opening read ended NoMemory w v = Breaks R opening read ended w v

-- an end that comes before all bytes were read, though no read failed
abbrev pub IsHalted : End → Type 0
IsHalted Done = ⊥
IsHalted Unfinished = ⊥
IsHalted ReadFault = ⊥
IsHalted SiteFaultEnd = Unit {0}
IsHalted LimitEnd = Unit {0}
IsHalted NoMemoryEnd = Unit {0}
