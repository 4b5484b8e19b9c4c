-- How faults of a source and of a site are answered by what a command prepares.
use Rattle.std.proofs.Common.{◌≡◌, ◌<◌, ℕ, List, Option, Result, Ok, Err, ⊎_elim, true, false}
use Rattle.std.proofs.Common.{refl, sym, ◌∙◌, subst}
use Rattle.road_base.specs.declared.event.Event.{Event}
use Rattle.road_base.specs.declared.ids.Sequence.{Sequence}
use Rattle.opl_lexer.specs.declared.mode.Mode.{Mode}
use Rattle.opl_objects.specs.declared.fault.Fault.{Fault}
use Rattle.road_io.specs.Told.{Rose}
use Rattle.sequence_journal.specs.declared.error.JournalError.{JournalError}
use Rattle.sequence_journal.specs.declared.error.JournalError.TheVariants.{OutOfSequence, SiteFault, Damaged, NoStore}
use Rattle.sequence_journal.specs.declared.error.JournalError.TheVariants.{StoreExists, TooLarge, NoMemory}
use Rattle.sequence_journal.specs.declared.journal.Journal.{Journal}
use Rattle.sequence_journal.specs.Journal.{CountsFaults}
use Rattle.sequence_journal.specs.Adding.{AddAnswer}
use Rattle.last_words.specs.declared.words.LastWords.{LastWords}
use Rattle.last_words.specs.declared.words.Failure.{Failure}
use Rattle.last_words.specs.declared.words.Failure.TheVariants.{ReadFault as ReadFailure, SiteFault as SiteFailure}
use Rattle.last_words.specs.declared.words.Failure.TheVariants.{NoMemory as NoMemoryFailure}
use Rattle.last_words.specs.declared.status.Status.{Status}
use Rattle.bounded_input.specs.declared.input.InputError.{InputError}
use Rattle.bounded_input.specs.declared.input.InputError.TheVariants.{Failed, TooLong, Refused}
use Rattle.bounded_input.specs.declared.input.InputError.TheVariants.{NoMemory as NoMemoryInput}
use Rattle.bounded_input.specs.Input.{Stopped}
use Rattle.last_words.specs.Replies.{Replies, RefusesInput}
use Rattle.osmroad.specs.Replies.{RefusesStore, RefusesChange}
use Rattle.osmroad.specs.Replies.{CountsReads, CountsCalls}

-- ---- faults of the site

-- memory ended, and no call failed
pub failed_calls : (result : Result LastWords Failure) (before now : ℕ) → result ≡ Err NoMemoryFailure → now ≡ before
    → CountsCalls before now result
failed_calls result before now is same =
    record {
      cause = λ fault. (let e : Err NoMemoryFailure ≡ Err SiteFailure = sym is ∙ fault in cc);
      stays = λ _. same;
    }

-- a reply is no failure but want of memory
pub reply_no_failure : (status : Status) (out : List ℕ) (result : Result LastWords Failure) → Replies status out result
    → (failure : Failure) → (failure ≡ NoMemoryFailure → ⊥) → result ≡ Err failure → ⊥
reply_no_failure status out (Ok r) says failure other is = cc
reply_no_failure status out (Err f) says failure other is =
    other (let e : Err f ≡ Err failure = is in let k : f ≡ failure = cc in sym k ∙ says)

-- no fault came
pub calls_calm : (before now : ℕ) (result : Result LastWords Failure) → now ≡ before
    → (result ≡ Err SiteFailure → ⊥) → CountsCalls before now result
calls_calm before now result same no_fault = record { cause = λ is. absurd (no_fault is); stays = λ _. same }

pub reply_calls : (status : Status) (out : List ℕ) (result : Result LastWords Failure) → Replies status out result
    → (before now : ℕ) → now ≡ before → CountsCalls before now result
reply_calls status out result says before now same =
    calls_calm before now result same (reply_no_failure status out result says SiteFailure (λ e. (cc)))

-- what refuses a store, and how often calls failed
pub fault_calls : {T : Type 0} (e : JournalError) (result : Result LastWords Failure) (before now : ℕ)
    → RefusesStore e result → CountsFaults before now (let r : Result T JournalError = Err e in r)
    → CountsCalls before now result
fault_calls SiteFault result before now is counts =
    record { cause = λ _. counts.cause refl; stays = λ other. absurd (other is) }
fault_calls NoMemory result before now is counts =
    failed_calls result before now is (counts.stays (λ e. (cc)))
fault_calls (OutOfSequence kept got) result before now says counts =
    reply_calls _ _ result says before now (counts.stays (λ e. (cc)))
fault_calls (Damaged file offset) result before now says counts =
    reply_calls _ _ result says before now (counts.stays (λ e. (cc)))
fault_calls NoStore result before now says counts =
    reply_calls _ _ result says before now (counts.stays (λ e. (cc)))
fault_calls StoreExists result before now says counts =
    reply_calls _ _ result says before now (counts.stays (λ e. (cc)))
fault_calls TooLarge result before now says counts =
    reply_calls _ _ result says before now (counts.stays (λ e. (cc)))

-- ---- faults of the source

-- no read failed
pub reads_calm : (before now : ℕ) (result : Result LastWords Failure) → (before < now → ⊥)
    → (result ≡ Err ReadFailure → ⊥) → CountsReads before now result
reads_calm before now result calm no_fault =
    record { cause = λ is. absurd (no_fault is); each = λ rises. absurd (calm rises) }

not_read_fault : (result : Result LastWords Failure) → result ≡ Err NoMemoryFailure → result ≡ Err ReadFailure → ⊥
not_read_fault result is fault = let e : Err NoMemoryFailure ≡ Err ReadFailure = sym is ∙ fault in cc

reply_reads : (status : Status) (out : List ℕ) (result : Result LastWords Failure) → Replies status out result
    → (before now : ℕ) → (before < now → ⊥) → CountsReads before now result
reply_reads status out result says before now calm =
    reads_calm before now result calm (reply_no_failure status out result says ReadFailure (λ e. (cc)))

-- memory ended, and no read failed
pub failed_reads : (result : Result LastWords Failure) (before now : ℕ) → result ≡ Err NoMemoryFailure
    → (before < now → ⊥) → CountsReads before now result
failed_reads result before now is calm = reads_calm before now result calm (not_read_fault result is)

-- what refuses a store, where no read failed
pub refused_reads : (e : JournalError) (result : Result LastWords Failure) (before now : ℕ) → RefusesStore e result
    → (before < now → ⊥) → CountsReads before now result
refused_reads SiteFault result before now is calm = reads_calm before now result calm
    (λ fault. let e : Err SiteFailure ≡ Err ReadFailure = sym is ∙ fault in cc)
refused_reads NoMemory result before now is calm = reads_calm before now result calm (not_read_fault result is)
refused_reads (OutOfSequence kept got) result before now says calm = reply_reads _ _ result says before now calm
refused_reads (Damaged file offset) result before now says calm = reply_reads _ _ result says before now calm
refused_reads NoStore result before now says calm = reply_reads _ _ result says before now calm
refused_reads StoreExists result before now says calm = reply_reads _ _ result says before now calm
refused_reads TooLarge result before now says calm = reply_reads _ _ result says before now calm

-- what refuses an input, and how often reads failed
pub input_reads : (mode : Mode) (error : InputError) (held left : Option (List ℕ)) (before now : ℕ)
    (result : Result LastWords Failure) → Stopped mode error held left before now
    → (before < now → error ≡ Failed) → RefusesInput error result → CountsReads before now result
input_reads mode Failed held left before now result s each is =
    record { cause = λ _. s.cause.0; each = λ _. is }
input_reads mode TooLong held left before now result s each says = reply_reads _ _ result says before now
    (λ rises. let e : TooLong ≡ Failed = each rises in cc)
input_reads mode (Refused fault) held left before now result s each says = reply_reads _ _ result says before now
    (λ rises. let e : Refused fault ≡ Failed = each rises in cc)
input_reads mode NoMemoryInput held left before now result s each is = reads_calm before now result
    (λ rises. let e : NoMemoryInput ≡ Failed = each rises in cc) (not_read_fault result is)

-- what refuses an input, where no call failed
pub input_calls : (error : InputError) (result : Result LastWords Failure) (before now : ℕ) → RefusesInput error result
    → now ≡ before → CountsCalls before now result
input_calls Failed result before now is same = calls_calm before now result same
    (λ fault. let e : Err ReadFailure ≡ Err SiteFailure = sym is ∙ fault in cc)
input_calls TooLong result before now says same = reply_calls _ _ result says before now same
input_calls (Refused fault) result before now says same = reply_calls _ _ result says before now same
input_calls NoMemoryInput result before now is same = failed_calls result before now is same

-- what refuses a change that isn't read, and how often reads failed
pub unread_reads : (mode : Mode) (error : InputError) (journal : Journal) (number : Sequence)
    (held left : Option (List ℕ)) (before now : ℕ) (result : Result LastWords Failure)
    → Stopped mode error held left before now → (before < now → error ≡ Failed)
    → ((fault : Fault) → error ≡ Refused fault → RefusesChange journal number fault result)
    → (((fault : Fault) → error ≡ Refused fault → ⊥) → RefusesInput error result) → CountsReads before now result
unread_reads mode Failed journal number held left before now result s each fault other =
    input_reads mode Failed held left before now result s each (other (λ f e. (cc)))
unread_reads mode TooLong journal number held left before now result s each fault other =
    input_reads mode TooLong held left before now result s each (other (λ f e. (cc)))
unread_reads mode (Refused f) journal number held left before now result s each fault other =
    let calm : before < now → ⊥ = λ rises. (let e : Refused f ≡ Failed = each rises in cc) in
    ⊎_elim (λ r. reply_reads _ _ result r.1 before now calm) (λ r. reply_reads _ _ result r.1 before now calm)
    (fault f refl)
unread_reads mode NoMemoryInput journal number held left before now result s each fault other =
    input_reads mode NoMemoryInput held left before now result s each (other (λ f e. (cc)))

-- the same, where no call failed
pub unread_calls : (error : InputError) (journal : Journal) (number : Sequence) (result : Result LastWords Failure)
    (before now : ℕ) → ((fault : Fault) → error ≡ Refused fault → RefusesChange journal number fault result)
    → (((fault : Fault) → error ≡ Refused fault → ⊥) → RefusesInput error result) → now ≡ before
    → CountsCalls before now result
unread_calls Failed journal number result before now fault other same =
    input_calls Failed result before now (other (λ f e. (cc))) same
unread_calls TooLong journal number result before now fault other same =
    input_calls TooLong result before now (other (λ f e. (cc))) same
unread_calls (Refused f) journal number result before now fault other same =
    ⊎_elim (λ r. reply_calls _ _ result r.1 before now same) (λ r. reply_calls _ _ result r.1 before now same)
    (fault f refl)
unread_calls NoMemoryInput journal number result before now fault other same =
    input_calls NoMemoryInput result before now (other (λ f e. (cc))) same

-- what refuses an addition to a journal that isn't closed, and how often calls failed
pub added_calls : (old new : Journal) (number : Sequence) (events : List Event) (e : JournalError)
    (result : Result LastWords Failure) (before now : ℕ) → old.closed ≡ false → RefusesStore e result
    → AddAnswer old new number events (Err e) before now → CountsCalls before now result
added_calls old new number events SiteFault result before now alive is answer =
    record { cause = λ _. rose; stays = λ other. absurd (other is) }
  where
    rose : Rose before now
    rose = ⊎_elim (λ closed. let e : false ≡ true = sym alive ∙ closed.0 in cc) (λ may. may.2) answer.0
added_calls old new number events NoMemory result before now alive is answer =
    failed_calls result before now is answer.3
added_calls old new number events (OutOfSequence kept got) result before now alive says answer =
    reply_calls _ _ result says before now answer.5
added_calls old new number events TooLarge result before now alive says answer =
    reply_calls _ _ result says before now answer.4
added_calls old new number events (Damaged file offset) result before now alive says answer = absurd answer
added_calls old new number events NoStore result before now alive says answer = absurd answer
added_calls old new number events StoreExists result before now alive says answer = absurd answer

-- the refusal of a call behind calls that didn't fail
pub later_calls : (first before now : ℕ) (result : Result LastWords Failure) → before ≡ first
    → CountsCalls before now result → CountsCalls first now result
later_calls first before now result same counts =
    subst (λ (m : ℕ). CountsCalls m now result) same counts
