-- What is prepared of a text within limits.
use Rattle.std.proofs.Common.{◌≡◌, ◌<◌, ℕ, List, ◌++◌, Option, Result, Err, inr, refl, sym, subst}
use Rattle.road_base.specs.declared.event.Event.{Event}
use Rattle.opl_lexer.specs.declared.mode.Mode.TheVariants.{Extract}
use Rattle.opl_objects.specs.StreamLines.{fault_at}
use Rattle.bounded_input.specs.declared.input.InputError.{InputError}
use Rattle.bounded_input.specs.declared.input.InputError.TheVariants.{Failed, TooLong, Refused, NoMemory}
use Rattle.bounded_input.specs.Input.{ReadWhole, Stopped, Cause}
use Rattle.bounded_input.proofs.PassedLimits.{still_passes}
use Rattle.last_words.specs.declared.words.LastWords.{LastWords}
use Rattle.last_words.specs.declared.words.Failure.{Failure}
use Rattle.last_words.specs.declared.words.Failure.TheVariants.{ReadFault, NoMemory as MemoryFailure}
use Rattle.last_words.specs.declared.status.Status.TheVariants.{Done, Limit}
use Rattle.last_words.specs.declared.status.Status.TheVariants.{Refused as RefusedStatus}
use Rattle.last_words.specs.Texts.{limit_line, refused_line}
use Rattle.last_words.specs.Replies.{Replies, RefusesInput}
use Rattle.cells.specs.declared.command.MapCommand.{MapCommand}
use Rattle.cells.specs.declared.command.Command.TheVariants.{Map}
use Rattle.cells.specs.Outcomes.{TextRefusal, MapGives, IsMade}
use Rattle.cells.specs.Replies.{IsPrepared, Prepares, CountsReads}
use Rattle.cells.proofs.HeldSource.{behind_of, all_read}
use Rattle.cells.proofs.Prepared.{by_failure, replied, prepares, prepares_whole, reply_reads, reads_calm, not_read_fault}

module _ (command : MapCommand) (held left : Option (List ℕ)) where
  -- why the text isn't taken, and what will be put then
  refused_answer : (faults_before faults_now : ℕ) (error : InputError) (result : Result LastWords Failure)
      (read : List ℕ) → Cause Extract error read left faults_before faults_now → RefusesInput error result
      → IsPrepared (Map command) (read ++ behind_of left) read result
  refused_answer fb fn Failed result read cause is =
      by_failure (Map command) (read ++ behind_of left) read ReadFault result is cause.1
  refused_answer fb fn TooLong result read cause is =
      replied (Map command) (read ++ behind_of left) read Limit limit_line result is cause
      (MapGives.OfText (TextRefusal.OfTooMuch (still_passes read (behind_of left) cause.passes) refl refl))
  refused_answer fb fn (Refused fault) result read cause is =
      let line = refused_line (fault_at fault) in
      subst (λ (bytes : List ℕ). IsPrepared (Map command) bytes read result) (sym (all_read read left cause.0))
      (replied (Map command) read read RefusedStatus line result is refl
      (MapGives.OfText (TextRefusal.OfFault (inr cause.1) (fault_at fault) cause.2 refl refl)))
  refused_answer fb fn NoMemory result read cause is =
      by_failure (Map command) (read ++ behind_of left) read MemoryFailure result is tt

  pub refused_text : (faults_before faults_now : ℕ) (error : InputError) (result : Result LastWords Failure)
      → Stopped Extract error held left faults_before faults_now → RefusesInput error result
      → Prepares (Map command) result held left
  refused_text fb fn error result stopped is =
      prepares (Map command) result stopped.read held left stopped.took
      (refused_answer fb fn error result stopped.read stopped.cause is)

  module _ (events : List Event) (whole : ReadWhole Extract events held left) where
    -- all was read, and memory ended
    pub failed_text : (result : Result LastWords Failure) → result ≡ Err MemoryFailure
        → Prepares (Map command) result held left
    failed_text result is = prepares_whole (Map command) result whole.bytes held left whole.took whole.ended
        (by_failure (Map command) whole.bytes whole.bytes MemoryFailure result is tt)

    -- all was read, and this was made of it
    pub read_text : (result : Result LastWords Failure) (out : List ℕ) → Replies Done out result
        → IsMade command events out → Prepares (Map command) result held left
    read_text result out says made = prepares_whole (Map command) result whole.bytes held left whole.took whole.ended
        (replied (Map command) whole.bytes whole.bytes Done out result says refl
        (MapGives.OfMap whole.within events whole.gives made refl))

-- what refuses an input, and how often reads failed
pub input_reads : (error : InputError) (held left : Option (List ℕ)) (before now : ℕ)
    (result : Result LastWords Failure) → Stopped Extract error held left before now
    → (before < now → error ≡ Failed) → RefusesInput error result → CountsReads before now result
input_reads Failed held left before now result s each is = record { cause = λ _. s.cause.0; each = λ _. is }
input_reads TooLong held left before now result s each says = reply_reads _ _ result says before now
    (λ rises. let e : TooLong ≡ Failed = each rises in cc)
input_reads (Refused fault) held left before now result s each says = reply_reads _ _ result says before now
    (λ rises. let e : Refused fault ≡ Failed = each rises in cc)
input_reads NoMemory held left before now result s each is = reads_calm before now result
    (λ rises. let e : NoMemory ≡ Failed = each rises in cc) (not_read_fault result is)
