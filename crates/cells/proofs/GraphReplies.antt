-- What is prepared of graphs.
use Rattle.std.proofs.Common.{◌≡◌, ◌<◌, ℕ, List, ◌++◌, Option, Result, Ok, Err}
use Rattle.std.proofs.Common.{refl, sym, subst, arith, length-append}
use Rattle.bounded_input.specs.declared.input.InputError.{InputError}
use Rattle.bounded_input.specs.declared.input.InputError.TheVariants.{Failed, TooLong, Refused, NoMemory}
use Rattle.bounded_input.specs.Limits.{HasTooManyBytes}
use Rattle.bounded_input.specs.SourceBytes.{Gathered, GatherStopped, GatherCause}
use Rattle.last_words.specs.declared.words.LastWords.{LastWords}
use Rattle.last_words.specs.declared.words.Failure.{Failure}
use Rattle.last_words.specs.declared.words.Failure.TheVariants.{ReadFault, NoMemory as MemoryFailure}
use Rattle.last_words.specs.declared.status.Status.{Status}
use Rattle.last_words.specs.declared.status.Status.TheVariants.{Limit}
use Rattle.last_words.specs.Texts.{limit_line}
use Rattle.last_words.specs.Replies.{RefusesInput}
use Rattle.cells.specs.declared.command.GraphCommand.{GraphCommand}
use Rattle.cells.specs.declared.command.Command.TheVariants.{Graphs}
use Rattle.cells.specs.Outcomes.{GraphsGive}
use Rattle.cells.specs.Run.{ReadsSource}
use Rattle.cells.specs.Replies.{IsPrepared, Prepares, CountsReads, Answers}
use Rattle.cells.proofs.HeldSource.{behind_of}
use Rattle.cells.proofs.Prepared.{by_failure, replied, prepares, prepares_whole, reply_reads, reads_calm, not_read_fault}

still_too_many : (bytes behind : List ℕ) → HasTooManyBytes bytes → HasTooManyBytes (bytes ++ behind)
still_too_many bytes behind more = let total = length-append bytes behind in omega arith

module _ (command : GraphCommand) (held left : Option (List ℕ)) where
  -- why the bytes aren't all read, and what will be put then
  stopped_answer : (faults_before faults_now : ℕ) (error : InputError) (result : Result LastWords Failure)
      (read : List ℕ) → GatherCause error read faults_before faults_now → RefusesInput error result
      → IsPrepared (Graphs command) (read ++ behind_of left) read result
  stopped_answer fb fn Failed result read cause is =
      by_failure (Graphs command) (read ++ behind_of left) read ReadFault result is cause.1
  stopped_answer fb fn TooLong result read cause is =
      replied (Graphs command) (read ++ behind_of left) read Limit limit_line result is cause
      (GraphsGive.OfTooMuch (still_too_many read (behind_of left) cause.passes) refl refl)
  stopped_answer fb fn (Refused fault) result read cause is = absurd cause
  stopped_answer fb fn NoMemory result read cause is =
      by_failure (Graphs command) (read ++ behind_of left) read MemoryFailure result is tt

  pub stopped_graphs : (faults_before faults_now : ℕ) (error : InputError) (result : Result LastWords Failure)
      → GatherStopped error held left faults_before faults_now → RefusesInput error result
      → Prepares (Graphs command) result held left
  stopped_graphs fb fn error result stopped is =
      prepares (Graphs command) result stopped.read held left stopped.took
      (stopped_answer fb fn error result stopped.read stopped.cause is)

  module _ (bytes : List ℕ) (all : Gathered bytes held left) where
    all_reads : (status : Status) (out : List ℕ) → GraphsGive command bytes status out
        → ReadsSource (Graphs command) status bytes bytes
    all_reads status out (GraphsGive.OfTooMuch more e o) = absurd (all.within more)
    all_reads status out (GraphsGive.OfFault few fault is e o) =
        subst (λ (s : Status). ReadsSource (Graphs command) s bytes bytes) (sym e) refl
    all_reads status out (GraphsGive.OfGraphs few made e) =
        subst (λ (s : Status). ReadsSource (Graphs command) s bytes bytes) (sym e) refl

    answered : (result : Result LastWords Failure) → Answers (Graphs command) bytes result
        → IsPrepared (Graphs command) bytes bytes result
    answered (Ok reply) gives = record { reads = all_reads reply.status reply.out.items gives; gives = gives }
    answered (Err failure) is = by_failure (Graphs command) bytes bytes MemoryFailure (Err failure)
        (let e : failure ≡ MemoryFailure = is in cc) tt

    -- all was read
    pub read_graphs : (result : Result LastWords Failure) → Answers (Graphs command) bytes result
        → Prepares (Graphs command) result held left
    read_graphs result answers =
        prepares_whole (Graphs command) result bytes held left all.took all.ended (answered result answers)

-- ---- faults of the source

-- what refuses bytes that aren't read, and how often reads failed
pub stopped_reads : (error : InputError) (held left : Option (List ℕ)) (before now : ℕ)
    (result : Result LastWords Failure) → GatherStopped error held left before now
    → (before < now → error ≡ Failed) → RefusesInput error result → CountsReads before now result
stopped_reads Failed held left before now result s each is = record { cause = λ _. s.cause.0; each = λ _. is }
stopped_reads TooLong held left before now result s each says = reply_reads _ _ result says before now
    (λ rises. let e : TooLong ≡ Failed = each rises in cc)
stopped_reads (Refused fault) held left before now result s each says = absurd s.cause
stopped_reads NoMemory held left before now result s each is = reads_calm before now result
    (λ rises. let e : NoMemory ≡ Failed = each rises in cc) (not_read_fault result is)

pub answer_reads : (command : GraphCommand) (bytes : List ℕ) (before now : ℕ) (result : Result LastWords Failure)
    → Answers (Graphs command) bytes result → (before < now → ⊥) → CountsReads before now result
answer_reads command bytes before now (Ok reply) answers calm = reads_calm before now (Ok reply) calm (λ e. (cc))
answer_reads command bytes before now (Err failure) answers calm = reads_calm before now (Err failure) calm
    (not_read_fault (Err failure) (let e : failure ≡ MemoryFailure = answers in cc))
