-- What `inspect` prepares.
use Rattle.std.proofs.Common.{◌≡◌, ◌<◌, ℕ, List, ◌++◌, Option, Some, Result, Err, inl, inr, refl, arith}
use Rattle.std.proofs.Common.{length-append, sym, ◌∙◌}
use Rattle.road_io.specs.Outside.{Outside}
use Rattle.road_model.specs.declared.blocks.Block.{Block}
use Rattle.road_model.specs.Format.{IsGraphFile}
use Rattle.graph_file.specs.GraphReading.{IsFile}
use Rattle.drive_queries.specs.Counting.{totals_of}
use Rattle.osmroad.specs.declared.command.Command.{Command}
use Rattle.osmroad.specs.declared.command.Command.TheVariants.{Inspect}
use Rattle.bounded_input.specs.declared.input.InputError.{InputError}
use Rattle.bounded_input.specs.declared.input.InputError.TheVariants.{Failed, TooLong, Refused, NoMemory}
use Rattle.last_words.specs.declared.words.LastWords.{LastWords}
use Rattle.last_words.specs.declared.words.Failure.{Failure}
use Rattle.last_words.specs.declared.words.Failure.TheVariants.{ReadFault, NoMemory as MemoryFailure}
use Rattle.last_words.specs.declared.status.Status.TheVariants.{Done, Limit}
use Rattle.last_words.specs.declared.status.Status.TheVariants.{Refused as RefusedStatus}
use Rattle.bounded_input.specs.Limits.{HasTooManyBytes}
use Rattle.bounded_input.specs.SourceBytes.{Gathered, GatherStopped, GatherCause}
use Rattle.last_words.specs.Texts.{limit_line}
use Rattle.osmroad.specs.Texts.{refused_graph_line, counts_line}
use Rattle.osmroad.specs.Outcomes.{InspectGives}
use Rattle.last_words.specs.Replies.{Replies, RefusesInput}
use Rattle.osmroad.specs.Replies.{CountsReads, IsPrepared, Prepares}
use Rattle.osmroad.proofs.AnsweredFaults.{reads_calm, reply_no_failure}
use Rattle.session.proofs.HeldSource.{behind_of}
use Rattle.osmroad.proofs.Replied.{replied}
use Rattle.osmroad.proofs.Prepared.{by_failure, prepares, prepares_whole}
use Rattle.osmroad.proofs.WithoutStore.{silent_still, stands_still, leaves_still, will_put_alone}

abbrev inspect : Option Command
inspect = Some Inspect

still_too_many : (bytes behind : List ℕ) → HasTooManyBytes bytes → HasTooManyBytes (bytes ++ behind)
still_too_many bytes behind more = let total = length-append bytes behind in omega arith

module _ (held left : Option (List ℕ)) (x : Option Outside) where
  -- why the bytes aren't all read, and what will be put then
  stopped_answer : (faults_before faults_now : ℕ) (error : InputError) (result : Result LastWords Failure)
      (read : List ℕ) → GatherCause error read faults_before faults_now → RefusesInput error result
      → IsPrepared inspect (read ++ behind_of left) read result x x
  stopped_answer fb fn Failed result read cause is =
      by_failure inspect (read ++ behind_of left) read x x ReadFault result is (tt, cause.1, stands_still x)
  stopped_answer fb fn TooLong result read cause is =
      let bytes = read ++ behind_of left in
      replied inspect bytes read Limit limit_line result x x is
      (will_put_alone inspect read (λ stored. stored) bytes Limit limit_line x (inr (inr refl)) cause
      (InspectGives.OfTooMuch (still_too_many read (behind_of left) cause.passes) refl refl, refl))
      (stands_still x)
  stopped_answer fb fn (Refused fault) result read cause is = absurd cause
  stopped_answer fb fn NoMemory result read cause is =
      by_failure inspect (read ++ behind_of left) read x x MemoryFailure result is (stands_still x)

  pub stopped_file : (faults_before faults_now : ℕ) (error : InputError) (result : Result LastWords Failure)
      → GatherStopped error held left faults_before faults_now → RefusesInput error result
      → Prepares inspect result held left x x
  stopped_file fb fn error result stopped is =
      prepares inspect result stopped.read held left x x stopped.took
      (stopped_answer fb fn error result stopped.read stopped.cause is) (silent_still x)
      (leaves_still inspect stopped.read (λ stored. stored) x)

  module _ (bytes : List ℕ) (all : Gathered bytes held left) where
    -- all was read
    gathered : (result : Result LastWords Failure) → IsPrepared inspect bytes bytes result x x
        → Prepares inspect result held left x x
    gathered result answer =
        prepares_whole inspect result bytes held left x x all.took all.ended answer (silent_still x)
        (leaves_still inspect bytes (λ stored. stored) x)

    -- and memory ended
    pub failed_file : (result : Result LastWords Failure) → result ≡ Err MemoryFailure
        → Prepares inspect result held left x x
    failed_file result is = gathered result
        (by_failure inspect bytes bytes x x MemoryFailure result is (stands_still x))

    -- and is no graph file
    pub no_graph : (result : Result LastWords Failure) → Replies RefusedStatus refused_graph_line result
        → (IsGraphFile bytes → ⊥) → Prepares inspect result held left x x
    no_graph result says none = gathered result
        (replied inspect bytes bytes RefusedStatus refused_graph_line result x x says
        (will_put_alone inspect bytes (λ stored. stored) bytes RefusedStatus refused_graph_line x (inr (inl refl)) refl
        (InspectGives.OfNoGraph all.within none refl refl, refl))
        (stands_still x))

    -- and is one with these blocks
    pub counted_graph : (result : Result LastWords Failure) (version profile : ℕ) (blocks : List Block)
        → Replies Done (counts_line (totals_of blocks)) result
        → IsGraphFile bytes → IsFile version profile bytes blocks → Prepares inspect result held left x x
    counted_graph result version profile blocks says is file = gathered result
        (replied inspect bytes bytes Done (counts_line (totals_of blocks)) result x x says
        (will_put_alone inspect bytes (λ stored. stored) bytes Done (counts_line (totals_of blocks)) x (inl refl) refl
        (InspectGives.OfGraph all.within is version profile blocks file refl refl, refl))
        (stands_still x))

-- ---- faults of the source

-- what refuses bytes that aren't read, and how often reads failed
pub stopped_reads : (error : InputError) (held left : Option (List ℕ)) (before now : ℕ)
    (result : Result LastWords Failure) → GatherStopped error held left before now
    → (before < now → error ≡ Failed) → RefusesInput error result
    → CountsReads before now result
stopped_reads Failed held left before now result s each is = record { cause = λ _. s.cause.0; each = λ _. is }
stopped_reads TooLong held left before now result s each says = reads_calm before now result
    (λ rises. let e : TooLong ≡ Failed = each rises in cc)
    (reply_no_failure Limit limit_line result says ReadFault (λ e. (cc)))
stopped_reads (Refused fault) held left before now result s each says = absurd s.cause
stopped_reads NoMemory held left before now result s each is = reads_calm before now result
    (λ rises. let e : NoMemory ≡ Failed = each rises in cc)
    (λ fault. let e : Err MemoryFailure ≡ Err ReadFault = sym is ∙ fault in cc)
