-- How what a command prepares is put together.
use Rattle.std.proofs.Common.{◌≡◌, ℕ, ◌<◌, List, ◌++◌, Option, Some, Result, Ok, Err}
use Rattle.std.proofs.Common.{refl, sym, ap, ◌∙◌, subst}
use Rattle.std.specs.Prelude.{IsErrAnd}
use Rattle.road_io.specs.Parts.{Took}
use Rattle.bounded_input.specs.Input.{Ended}
use Rattle.last_words.specs.declared.status.Status.{Status}
use Rattle.last_words.specs.declared.words.LastWords.{LastWords}
use Rattle.last_words.specs.declared.words.Failure.{Failure}
use Rattle.last_words.specs.declared.words.Failure.TheVariants.{ReadFault, NoMemory}
use Rattle.last_words.specs.Replies.{Replies}
use Rattle.cells.specs.declared.command.Command.{Command}
use Rattle.cells.specs.Outcomes.{Gives}
use Rattle.cells.specs.Run.{HeldBytes, ReadsSource}
use Rattle.cells.specs.Replies.{IsPrepared, WillFail, Prepares, CountsReads}
use Rattle.cells.proofs.HeldSource.{behind_of, held_by, all_read}

-- ---- answers

-- nothing will be put, for this reason
pub by_failure : (command : Command) (bytes read : List ℕ) (failure : Failure) (result : Result LastWords Failure)
    → result ≡ Err failure → WillFail command read failure → IsPrepared command bytes read result
by_failure command bytes read failure result is fails =
    subst (λ (r : Result LastWords Failure). IsPrepared command bytes read r) (sym is) fails

-- a reply says what will be put, or memory ended in its place
pub replied : (command : Command) (bytes read : List ℕ) (status : Status) (out : List ℕ)
    (result : Result LastWords Failure) → Replies status out result → ReadsSource command status bytes read
    → Gives (Some command) bytes status out → IsPrepared command bytes read result
replied command bytes read status out (Ok r) says reads gives = record {
  reads = subst (λ (s : Status). ReadsSource command s bytes read) (sym says.0) reads;
  gives = subst (λ (s : Status). Gives (Some command) bytes s r.out.items) (sym says.0)
      (subst (λ (l : List ℕ). Gives (Some command) bytes status l) (sym says.1) gives);
}
replied command bytes read status out (Err failure) is reads gives =
    subst (λ (f : Failure). WillFail command read f) (sym is) tt

-- what a `?` hands on where memory ended
pub no_memory : (result : Result LastWords Failure) → IsErrAnd result (λ e. e ≡ NoMemory) → result ≡ Err NoMemory
no_memory (Ok r) is = absurd is
no_memory (Err failure) is = ap (λ (f : Failure). Err f) is

-- all of what is prepared, where some of the source was read
pub prepares : (command : Command) (result : Result LastWords Failure) (read : List ℕ) (held left : Option (List ℕ))
    → Took read held left → IsPrepared command (read ++ behind_of left) read result → Prepares command result held left
prepares command result read held left took answer = record {
  bytes = read ++ behind_of left;
  read = read;
  behind = behind_of left;
  all = refl;
  holds = held_by read held left took;
  answer = answer;
}

-- the same where the source was read to its end
pub prepares_whole : (command : Command) (result : Result LastWords Failure) (read : List ℕ)
    (held left : Option (List ℕ)) → Took read held left → Ended left → IsPrepared command read read result
    → Prepares command result held left
prepares_whole command result read held left took ended answer =
    let whole = all_read read left ended in
    record {
      bytes = read;
      read = read;
      behind = behind_of left;
      all = sym whole;
      holds = subst (λ (b : List ℕ). HeldBytes b (behind_of left) held left) whole (held_by read held left took);
      answer = answer;
    }

-- ---- faults of the source

-- no read failed
pub reads_calm : (before now : ℕ) (result : Result LastWords Failure) → (before < now → ⊥)
    → (result ≡ Err ReadFault → ⊥) → CountsReads before now result
reads_calm before now result calm no_fault =
    record { cause = λ is. absurd (no_fault is); each = λ rises. absurd (calm rises) }

-- a reply is no failure but want of memory
pub reply_no_failure : (status : Status) (out : List ℕ) (result : Result LastWords Failure) → Replies status out result
    → result ≡ Err ReadFault → ⊥
reply_no_failure status out (Ok r) says is = cc
reply_no_failure status out (Err f) says is =
    let e : Err f ≡ Err ReadFault = is in let k : f ≡ ReadFault = cc in
    let m : NoMemory ≡ ReadFault = sym says ∙ k in cc

pub not_read_fault : (result : Result LastWords Failure) → result ≡ Err NoMemory → result ≡ Err ReadFault → ⊥
not_read_fault result is fault = let e : Err NoMemory ≡ Err ReadFault = sym is ∙ fault in cc

pub reply_reads : (status : Status) (out : List ℕ) (result : Result LastWords Failure) → Replies status out result
    → (before now : ℕ) → (before < now → ⊥) → CountsReads before now result
reply_reads status out result says before now calm =
    reads_calm before now result calm (reply_no_failure status out result says)

-- memory ended, and no read failed
pub failed_reads : (result : Result LastWords Failure) (before now : ℕ) → result ≡ Err NoMemory
    → (before < now → ⊥) → CountsReads before now result
failed_reads result before now is calm = reads_calm before now result calm (not_read_fault result is)
