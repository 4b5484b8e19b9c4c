-- What a command prepares: nothing is put yet.
use Rattle.std.specs.Prelude.{◌≡◌, ℕ, ◌<◌, List, ◌++◌, Option, Some, Result, Ok, Err}
use Rattle.road_io.specs.Told.{Rose}
use Rattle.last_words.specs.declared.words.LastWords.{LastWords}
use Rattle.last_words.specs.declared.words.Failure.{Failure}
use Rattle.last_words.specs.declared.words.Failure.TheVariants.{ReadFault, SiteFault, NoMemory}
use Rattle.cells.specs.declared.command.Command.{Command}
use Rattle.cells.specs.Outcomes.{Gives}
use Rattle.cells.specs.Run.{HeldBytes, PassesFor, ReadsSource}

-- the status and the output are given
pub record WillPut (command : Command) (bytes read : List ℕ) (reply : LastWords) : Type 0 where
  pub reads : ReadsSource command reply.status bytes read
  pub gives : Gives (Some command) bytes reply.status reply.out.items

-- the site isn't asked for anything before something is put
abbrev pub WillFail : Command → List ℕ → Failure → Type 0
WillFail command read ReadFault = PassesFor command read → ⊥
WillFail command read SiteFault = ⊥
WillFail command read NoMemory = Unit {0}

abbrev pub IsPrepared : Command → List ℕ → List ℕ → Result LastWords Failure → Type 0
IsPrepared command bytes read (Ok reply) = WillPut command bytes read reply
IsPrepared command bytes read (Err failure) = WillFail command read failure

-- what was read of the source, and what is to be put
pub record Prepares (command : Command) (result : Result LastWords Failure) (held remaining : Option (List ℕ))
    : Type 0 where
  pub bytes : List ℕ
  pub read : List ℕ
  pub behind : List ℕ
  pub all : bytes ≡ read ++ behind
  pub holds : HeldBytes bytes behind held remaining
  pub answer : IsPrepared command bytes read result

-- a fault of the source is answered exactly where it came
pub record CountsReads (before now : ℕ) (result : Result LastWords Failure) : Type 0 where
  pub cause : result ≡ Err ReadFault → Rose before now
  pub each : before < now → result ≡ Err ReadFault

-- where all was read, the status and the output are given, or memory ended
abbrev pub Answers : Command → List ℕ → Result LastWords Failure → Type 0
Answers command bytes (Ok reply) = Gives (Some command) bytes reply.status reply.out.items
Answers command bytes (Err failure) = failure ≡ NoMemory
