-- What a session over a store does: what it reads and puts, for what the files then stand, and what a stop leaves.
use Rattle.std.specs.Prelude.{◌≡◌, ◌≢◌, ◌⊎◌, ℕ, ◌<◌, ◌≤◌, ◌^◌, List, [], ◌++◌, length, take, Option, Bool, true}
use Rattle.std.specs.Io.{StartsWith}
use Rattle.road_base.specs.History.{History}
use Rattle.road_io.specs.Told.{Told, Rose}
use Rattle.road_io.specs.Outside.{Outside, Left, LeavesOnly, image_of}
use Rattle.sequence_journal.specs.declared.journal.Journal.{Journal}
use Rattle.store_switch.specs.LiveFile.{reads_of}
use Rattle.store_switch.specs.TwoFiles.{StandFor, CanBeLoaded, IsOnStore}
use Rattle.session_answers.specs.Replies.{Replies}
use Rattle.session.specs.declared.end.End.{End}
use Rattle.session.specs.declared.end.End.TheVariants.{Done, Unfinished, ReadFault, SiteFault, Limit, NoMemory}
use Rattle.session.specs.Conversation.{Kept, room_at}
use Rattle.session.specs.Endings.{SessionGives, Comes}

-- ---- what is kept

-- what is known of what is kept, of the world outside
abbrev pub Keeps : Type 0 → Type 1
Keeps B = Kept B → Outside → Type 0

-- What answers stands for what is kept, and the journal is that of it: it stands on the files for its history, and the
-- live one has at most 2^40 bytes.
pub record IsKept {B : Type 0} (Stands : History → B → Type 0) (journal : Journal) (from : Kept B) (w : Outside)
    : Type 0 where
  pub on_store : IsOnStore journal from.history w
  pub small : length (reads_of w journal.file) ≤ 2 ^ 40
  pub stands : Stands from.history from.beside
  pub room : from.room ≡ room_at journal.gate

-- something is kept
abbrev pub IsReadyAt : {B : Type 0} → Keeps B → Outside → Type 0
IsReadyAt {B} Has w = (from : Kept B) × Has from w

-- ---- what a stop leaves

-- A stop leaves a front of the reply, behind this output. The files stand for what was kept before the message or for
-- what is kept behind it, and for the latter where the whole reply lies in the output.
pub record LeavesReply {B : Type 0} (from to : Kept B) (output reply : List ℕ) (left : Left) : Type 0 where
  pub begins : StartsWith left.out output
  pub within : StartsWith (output ++ reply) left.out
  pub files : StandFor (image_of left) from.history ⊎ StandFor (image_of left) to.history
  pub whole : StartsWith left.out (output ++ reply) → StandFor (image_of left) to.history

-- A stop leaves the replies to the messages of a front of what was read, and a front of what is said next; and the
-- files stand for what those messages left, or for what is kept with the next one.
pub record LeavesSession {B : Type 0} (R : Replies B) (opening : Kept B) (read : List ℕ) (ended : Bool) (w : Outside)
    (left : Left) : Type 0 where
  pub said : List ℕ
  pub reply : List ℕ
  pub from : Kept B
  pub to : Kept B
  pub comes : Comes R opening read ended said from reply to
  pub leaves : LeavesReply from to (w.output ++ said) reply left

-- ---- how it ends

-- what is given for the bytes that were read was put whole, and the files stand for what is kept
pub record PutsAll {B : Type 0} (R : Replies B) (opening : Kept B) (read : List ℕ) (ended : Bool) (end : End)
    (w v : Outside) : Type 0 where
  pub out : List ℕ
  pub to : Kept B
  pub gives : SessionGives R opening read ended end out to
  pub grows : v.output ≡ w.output ++ out
  pub stand : CanBeLoaded (reads_of v) to.history

-- a front of what the bytes that were read give was put: replies, and a front of what is said next
pub record PutsFront {B : Type 0} (R : Replies B) (opening : Kept B) (read : List ℕ) (ended : Bool) (w v : Outside)
    : Type 0 where
  pub said : List ℕ
  pub reply : List ℕ
  pub from : Kept B
  pub to : Kept B
  pub comes : Comes R opening read ended said from reply to
  pub n : ℕ
  pub grows : v.output ≡ w.output ++ (said ++ take n reply)

abbrev pub EndsWith : {B : Type 0} → Replies B → Kept B → List ℕ → Bool → End → Outside → Outside → Type 0
EndsWith {B} R opening read ended Done w v = PutsAll R opening read ended Done w v
EndsWith {B} R opening read ended Unfinished w v = PutsAll R opening read ended Unfinished w v
EndsWith {B} R opening read ended ReadFault w v = PutsAll R opening read ended ReadFault w v
EndsWith {B} R opening read ended SiteFault w v = PutsFront R opening read ended w v
EndsWith {B} R opening read ended Limit w v = PutsAll R opening read ended Limit w v
EndsWith {B} R opening read ended NoMemory w v = PutsFront R opening read ended w v

-- what was put, and what a stop at any moment leaves
pub record SessionEnds {B : Type 0} (R : Replies B) (opening : Kept B) (read : List ℕ) (ended : Bool) (end : End)
    (w v : Outside) : Type 0 where
  pub puts : EndsWith R opening read ended end w v
  pub stops : LeavesOnly w v (LeavesSession R opening read ended w)

-- The source held these bytes, and these remain of them, where it tells them. One that tells goes on telling.
abbrev pub HeldBytes : List ℕ → List ℕ → Option (List ℕ) → Option (List ℕ) → Type 0
HeldBytes bytes behind = Told (λ before now. (before ≡ bytes) × (now ≡ behind))

-- an end that comes behind all bytes
abbrev pub IsAtEnd : End → Type 0
IsAtEnd end = (end ≡ Done) ⊎ (end ≡ Unfinished)

-- where the source ended behind what was read, none of its bytes is left, and no read failed
abbrev pub EndsSource : Bool → List ℕ → (no_read_failed : Type 0) → Type 0
EndsSource ended behind no_read_failed = ended ≡ true → (behind ≡ []) × no_read_failed

-- How a session ends that may open with what `Opens` says: the bytes that the source held, those of them that were
-- read, whether it ended behind them, what was put, and what a stop leaves. Where the source tells nothing, these are
-- some bytes that begin with those that were read.
pub record Converses {B : Type 0} (R : Replies B) (Opens : Keeps B) (end : End) (held remaining : Option (List ℕ))
    (before now : Option Outside) : Type 0 where
  pub bytes : List ℕ
  pub read : List ℕ
  pub behind : List ℕ
  pub all : bytes ≡ read ++ behind
  pub holds : HeldBytes bytes behind held remaining
  pub ended : Bool
  pub source : EndsSource ended behind (end ≢ ReadFault)
  pub whole : IsAtEnd end → ended ≡ true
  pub ends : Told (λ w v. (opening : Kept B) → Opens opening w → SessionEnds R opening read ended end w v) before now

-- ---- faults

-- a fault of the source ends the session exactly where it came
pub record CountsReads (before now : ℕ) (end : End) : Type 0 where
  pub cause : end ≡ ReadFault → Rose before now
  pub each : before < now → end ≡ ReadFault

-- a fault of the site ends the session exactly where it came
pub record CountsCalls (before now : ℕ) (end : End) : Type 0 where
  pub cause : end ≡ SiteFault → Rose before now
  pub each : before < now → end ≡ SiteFault
