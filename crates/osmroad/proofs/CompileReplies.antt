-- What `compile` prepares.
use Rattle.std.proofs.Common.{◌≡◌, ℕ, List, ◌++◌, Option, Some, Result, Err, inl, inr, refl, sym, subst}
use Rattle.road_base.specs.declared.event.Event.{Event}
use Rattle.road_base.specs.Profiles.{IsProfile}
use Rattle.road_io.specs.Outside.{Outside}
use Rattle.opl_lexer.specs.declared.mode.Mode.TheVariants.{Extract}
use Rattle.opl_objects.specs.StreamLines.{fault_at}
use Rattle.access_profile.specs.Profiles.{rules_of}
use Rattle.osmroad.specs.declared.command.Command.{Command}
use Rattle.osmroad.specs.declared.command.Command.TheVariants.{Compile}
use Rattle.bounded_input.specs.declared.input.InputError.{InputError}
use Rattle.bounded_input.specs.declared.input.InputError.TheVariants.{Failed, TooLong, Refused, NoMemory}
use Rattle.last_words.specs.declared.words.LastWords.{LastWords}
use Rattle.last_words.specs.declared.words.Failure.{Failure}
use Rattle.last_words.specs.declared.words.Failure.TheVariants.{ReadFault, NoMemory as MemoryFailure}
use Rattle.last_words.specs.declared.status.Status.TheVariants.{Done, Limit}
use Rattle.last_words.specs.declared.status.Status.TheVariants.{Refused as RefusedStatus}
use Rattle.bounded_input.specs.Input.{ReadWhole, Stopped, Cause}
use Rattle.compiled_graph.specs.Compiled.{IsGraphOf}
use Rattle.last_words.specs.Texts.{limit_line, refused_line}
use Rattle.osmroad.specs.Outcomes.{InputRefusal, CompileGives}
use Rattle.last_words.specs.Replies.{RefusesInput}
use Rattle.osmroad.specs.Replies.{WillPut, IsPrepared, Prepares}
use Rattle.session.proofs.HeldSource.{behind_of}
use Rattle.osmroad.proofs.HeldSource.{all_read}
use Rattle.bounded_input.proofs.PassedLimits.{still_passes}
use Rattle.osmroad.proofs.Replied.{replied}
use Rattle.osmroad.proofs.Prepared.{by_failure, prepares, prepares_whole}
use Rattle.osmroad.proofs.WithoutStore.{silent_still, stands_still, leaves_still, will_put_alone}

module _ (profile : ℕ) (held left : Option (List ℕ)) (x : Option Outside) where
  abbrev compile : Option Command
  compile = Some (Compile profile)

  -- why the input isn't taken, and what will be put then
  refused_answer : (faults_before faults_now : ℕ) (error : InputError) (result : Result LastWords Failure)
      (read : List ℕ) → Cause Extract error read left faults_before faults_now → RefusesInput error result
      → IsPrepared compile (read ++ behind_of left) read result x x
  refused_answer fb fn Failed result read cause is =
      by_failure compile (read ++ behind_of left) read x x ReadFault result is (tt, cause.1, stands_still x)
  refused_answer fb fn TooLong result read cause is =
      let bytes = read ++ behind_of left in
      replied compile bytes read Limit limit_line result x x is
      (will_put_alone compile read (λ stored. stored) bytes Limit limit_line x (inr (inr refl)) cause
      (CompileGives.OfInput (InputRefusal.OfTooMuch (still_passes read (behind_of left) cause.passes) refl refl), refl))
      (stands_still x)
  refused_answer fb fn (Refused fault) result read cause is =
      let whole = all_read read left cause.0 in
      let line = refused_line (fault_at fault) in
      subst (λ (bytes : List ℕ). IsPrepared compile bytes read result x x) (sym whole)
      (replied compile read read RefusedStatus line result x x is
      (will_put_alone compile read (λ stored. stored) read RefusedStatus line x (inr (inl refl)) refl
      (CompileGives.OfInput (InputRefusal.OfFault cause.1 (fault_at fault) cause.2 refl refl), refl))
      (stands_still x))
  refused_answer fb fn NoMemory result read cause is =
      by_failure compile (read ++ behind_of left) read x x MemoryFailure result is (stands_still x)

  pub refused_extract : (faults_before faults_now : ℕ) (error : InputError) (result : Result LastWords Failure)
      → Stopped Extract error held left faults_before faults_now → RefusesInput error result
      → Prepares compile result held left x x
  refused_extract fb fn error result stopped is =
      prepares compile result stopped.read held left x x stopped.took
      (refused_answer fb fn error result stopped.read stopped.cause is) (silent_still x)
      (leaves_still compile stopped.read (λ stored. stored) x)

  module _ (events : List Event) (whole : ReadWhole Extract events held left) where
    -- all was read
    pub read_extract : (result : Result LastWords Failure) → IsPrepared compile whole.bytes whole.bytes result x x
        → Prepares compile result held left x x
    read_extract result answer =
        prepares_whole compile result whole.bytes held left x x whole.took whole.ended answer (silent_still x)
        (leaves_still compile whole.bytes (λ stored. stored) x)

    -- and memory ended
    pub failed_extract : (result : Result LastWords Failure) → result ≡ Err MemoryFailure
        → Prepares compile result held left x x
    failed_extract result is = read_extract result
        (by_failure compile whole.bytes whole.bytes x x MemoryFailure result is (stands_still x))

    pub will_put_graph : IsProfile profile → (out : List ℕ) → IsGraphOf (rules_of profile) events out
        → WillPut compile whole.bytes whole.bytes Done out x x
    will_put_graph known out graph =
        will_put_alone compile whole.bytes (λ stored. stored) whole.bytes Done out x (inl refl) refl (
          CompileGives.OfExtract whole.within
              (record { known = known; events = events; read = whole.gives; graph = graph })
              refl,
          refl,
        )
