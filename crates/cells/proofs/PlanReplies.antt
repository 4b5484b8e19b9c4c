-- What is prepared of a text that is read as a stream.
use Rattle.std.proofs.Common.{◌≡◌, ◌<◌, ℕ, List, ◌++◌, Option, Some, Result, Err}
use Rattle.std.proofs.Common.{inl, inr, refl, sym, ◌∙◌, subst, arith, length-append}
use Rattle.std.proofs.lemmas.List.{get_or_append_left}
use Rattle.road_base.specs.declared.event.Event.{Event}
use Rattle.opl_lexer.specs.declared.mode.Mode.TheVariants.{Extract}
use Rattle.opl_lexer.specs.Reading.{FaultAt, input_fault}
use Rattle.opl_objects.specs.StreamLines.{fault_at}
use Rattle.opl_objects.proofs.StreamFaults.{ended_fault-stays, ended_fault-is_first}
use Rattle.bounded_input.specs.declared.input.InputError.{InputError}
use Rattle.bounded_input.specs.declared.input.InputError.TheVariants.{Failed, TooLong, Refused, NoMemory}
use Rattle.bounded_input.specs.Limits.{PassesStreamLimit, HasLongLine}
use Rattle.bounded_input.specs.Streaming.{IsStreamed, IsFirstFault, StreamCause, StreamStopped}
use Rattle.last_words.specs.declared.words.LastWords.{LastWords}
use Rattle.last_words.specs.declared.words.Failure.{Failure}
use Rattle.last_words.specs.declared.words.Failure.TheVariants.{ReadFault, NoMemory as MemoryFailure}
use Rattle.last_words.specs.declared.status.Status.TheVariants.{Done, Limit}
use Rattle.last_words.specs.declared.status.Status.TheVariants.{Refused as RefusedStatus}
use Rattle.last_words.specs.Texts.{limit_line, refused_line}
use Rattle.last_words.specs.Replies.{Replies, RefusesInput}
use Rattle.cell_plan.specs.declared.cells.PlanRule.{PlanRule}
use Rattle.cells.specs.declared.command.Command.TheVariants.{Plan}
use Rattle.cells.specs.Made.{IsPlan}
use Rattle.cells.specs.Outcomes.{TextRefusal, PlanGives}
use Rattle.cells.specs.Replies.{IsPrepared, Prepares, CountsReads}
use Rattle.cells.proofs.HeldSource.{behind_of, all_read}
use Rattle.cells.proofs.Prepared.{by_failure, replied, prepares, prepares_whole, reply_reads, reads_calm, not_read_fault}

-- ---- a stream that goes on

still_long : (bytes behind : List ℕ) → HasLongLine bytes → HasLongLine (bytes ++ behind)
still_long bytes behind l =
    let inside = l.1.0 in
    let total = length-append bytes behind in
    (l.0, (omega arith, λ j from to e. l.1.1 j from to (sym (get_or_append_left bytes behind 0 j (omega arith)) ∙ e)))

still_passes : (bytes behind : List ℕ) → PassesStreamLimit bytes → PassesStreamLimit (bytes ++ behind)
still_passes bytes behind (inl more) = let total = length-append bytes behind in inl (omega arith)
still_passes bytes behind (inr long) = inr (still_long bytes behind long)

-- the first fault of what was read is that of all
still_first : (read : List ℕ) (left : Option (List ℕ)) (fault : FaultAt) → IsFirstFault Extract read left fault
    → input_fault Extract (read ++ behind_of left) ≡ Some fault
still_first read left fault (inl ended) = ended_fault-is_first Extract (read ++ behind_of left) fault
    (ended_fault-stays Extract read (behind_of left) fault ended)
still_first read left fault (inr whole) =
    subst (λ (l : List ℕ). input_fault Extract l ≡ Some fault) (sym (all_read read left whole.0)) whole.1

module _ (rule : PlanRule) (held left : Option (List ℕ)) where
  -- why the text isn't taken, and what will be put then
  refused_answer : (faults_before faults_now : ℕ) (error : InputError) (result : Result LastWords Failure)
      (read : List ℕ) → StreamCause Extract error read left faults_before faults_now → RefusesInput error result
      → IsPrepared (Plan rule) (read ++ behind_of left) read result
  refused_answer fb fn Failed result read cause is =
      by_failure (Plan rule) (read ++ behind_of left) read ReadFault result is cause.1
  refused_answer fb fn TooLong result read cause is =
      replied (Plan rule) (read ++ behind_of left) read Limit limit_line result is cause
      (PlanGives.OfText (TextRefusal.OfTooMuch (still_passes read (behind_of left) cause.passes) refl refl))
  refused_answer fb fn (Refused fault) result read cause is =
      replied (Plan rule) (read ++ behind_of left) read RefusedStatus (refused_line (fault_at fault)) result is cause.0
      (PlanGives.OfText (TextRefusal.OfFault (inl tt) (fault_at fault)
      (still_first read left (fault_at fault) cause.1) refl refl))
  refused_answer fb fn NoMemory result read cause is =
      by_failure (Plan rule) (read ++ behind_of left) read MemoryFailure result is tt

  pub refused_stream : (faults_before faults_now : ℕ) (error : InputError) (result : Result LastWords Failure)
      → StreamStopped Extract error held left faults_before faults_now → RefusesInput error result
      → Prepares (Plan rule) result held left
  refused_stream fb fn error result stopped is =
      prepares (Plan rule) result stopped.read held left stopped.took
      (refused_answer fb fn error result stopped.read stopped.cause is)

  module _ (AreTaken : List Event → Type 0) (whole : IsStreamed Extract AreTaken held left) where
    -- all was read, and memory ended
    pub failed_stream : (result : Result LastWords Failure) → result ≡ Err MemoryFailure
        → Prepares (Plan rule) result held left
    failed_stream result is = prepares_whole (Plan rule) result whole.bytes held left whole.took whole.ended
        (by_failure (Plan rule) whole.bytes whole.bytes MemoryFailure result is tt)

    -- all was read, and this was planned
    pub read_stream : (result : Result LastWords Failure) (out : List ℕ) → Replies Done out result
        → IsPlan rule whole.events out → Prepares (Plan rule) result held left
    read_stream result out says made = prepares_whole (Plan rule) result whole.bytes held left whole.took whole.ended
        (replied (Plan rule) whole.bytes whole.bytes Done out result says refl
        (PlanGives.OfNodes whole.within whole.events whole.gives made refl))

-- what refuses a stream, and how often reads failed
pub stream_reads : (error : InputError) (held left : Option (List ℕ)) (before now : ℕ)
    (result : Result LastWords Failure) → StreamStopped Extract error held left before now
    → (before < now → error ≡ Failed) → RefusesInput error result → CountsReads before now result
stream_reads Failed held left before now result s each is = record { cause = λ _. s.cause.0; each = λ _. is }
stream_reads TooLong held left before now result s each says = reply_reads _ _ result says before now
    (λ rises. let e : TooLong ≡ Failed = each rises in cc)
stream_reads (Refused fault) held left before now result s each says = reply_reads _ _ result says before now
    (λ rises. let e : Refused fault ≡ Failed = each rises in cc)
stream_reads NoMemory held left before now result s each is = reads_calm before now result
    (λ rises. let e : NoMemory ≡ Failed = each rises in cc) (not_read_fault result is)
