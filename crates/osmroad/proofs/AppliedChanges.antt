-- What is prepared to apply a change to a store.
use Rattle.std.proofs.Common.{◌≡◌, inl, inr, ⊎_elim, ℕ, ◌+◌, ◌<◌, ◌≤◌, ◌^◌, List, [], ◌++◌, length, get_or}
use Rattle.std.proofs.Common.{Option, None, Some, Result, Ok, Err, true, false, refl, sym, ◌∙◌, ap, subst, arith}
use Rattle.std.specs.Io.{StartsWith}
use Rattle.road_base.specs.declared.event.Event.{Event}
use Rattle.road_base.specs.declared.ids.Sequence.{Sequence}
use Rattle.road_base.specs.History.{History, kept, with_change}
use Rattle.opl_lexer.specs.declared.mode.Mode.TheVariants.{Change}
use Rattle.opl_objects.specs.declared.fault.Fault.{Fault}
use Rattle.opl_objects.specs.StreamLines.{fault_at}
use Rattle.object_codec.specs.Spelling.{events_bytes}
use Rattle.road_io.specs.Told.{Told}
use Rattle.road_io.specs.Outside.{Outside, Left, LeavesOnly, image_of}
use Rattle.road_io.proofs.ToldCalls.{told_weaker, told_then}
use Rattle.road_io.proofs.CallRuns.{only_weaker, then_runs}
use Rattle.sequence_journal.specs.declared.error.JournalError.{JournalError}
use Rattle.sequence_journal.specs.declared.error.JournalError.TheVariants.{OutOfSequence, SiteFault, Damaged, NoStore}
use Rattle.sequence_journal.specs.declared.error.JournalError.TheVariants.{StoreExists, TooLarge, NoMemory}
use Rattle.sequence_journal.specs.declared.journal.Journal.{Journal}
use Rattle.sequence_journal.specs.declared.load.Loaded.{Loaded}
use Rattle.sequence_journal.specs.Adding.{IsNext, Adds, AddAnswer}
use Rattle.store_switch.specs.LiveFile.{reads_of}
use Rattle.store_switch.specs.TwoFiles.{StandFor, IsOnStore, LeavesEither}
use Rattle.store_switch.specs.StoreLoading.{StoreLoaded, LoadsStore, IsLoadError}
use Rattle.osmroad.specs.declared.command.Command.{Command}
use Rattle.osmroad.specs.declared.command.Command.TheVariants.{Apply}
use Rattle.bounded_input.specs.declared.input.InputError.{InputError}
use Rattle.bounded_input.specs.declared.input.InputError.TheVariants.{Failed, TooLong, Refused as RefusedInput}
use Rattle.bounded_input.specs.declared.input.InputError.TheVariants.{NoMemory as NoMemoryInput}
use Rattle.last_words.specs.declared.words.LastWords.{LastWords}
use Rattle.last_words.specs.declared.words.Failure.{Failure}
use Rattle.last_words.specs.declared.words.Failure.TheVariants.{ReadFault, SiteFault as SiteFailure}
use Rattle.last_words.specs.declared.words.Failure.TheVariants.{NoMemory as NoMemoryFailure}
use Rattle.last_words.specs.declared.status.Status.{Status}
use Rattle.last_words.specs.declared.status.Status.TheVariants.{Done, Refused, Limit, OutOfSequence as OutOfSequenceStatus}
use Rattle.last_words.specs.Texts.{limit_line, refused_line}
use Rattle.osmroad.specs.Texts.{applied_line, sequence_line}
use Rattle.bounded_input.specs.Limits.{PassesLimit, PassesAtLast}
use Rattle.bounded_input.specs.Input.{Ended, ReadWhole, Stopped}
use Rattle.road_io.specs.Parts.{Took}
use Rattle.osmroad.specs.Opening.{Files}
use Rattle.osmroad.specs.Outcomes.{AreInput, ApplyGives}
use Rattle.osmroad.specs.Outcomes.{OfStore, OfTooMuch, OfSequence, OfFault, OfFullFile, OfChange}
use Rattle.osmroad.specs.Stops.{Before, Without, With}
use Rattle.osmroad.specs.Stops.{LeavesChange, LeavesStored, LeftBy}
use Rattle.osmroad.specs.Run.{IsReply, Reads, StandAsBefore, files_of}
use Rattle.last_words.specs.Replies.{Says, RefusesInput}
use Rattle.osmroad.specs.Replies.{RefusesStore, RefusesChange, IsPrepared, WillPut}
use Rattle.osmroad.specs.Replies.{Prepares}
use Rattle.session.proofs.HeldSource.{behind_of}
use Rattle.osmroad.proofs.Replied.{replied}
use Rattle.bounded_input.proofs.PassedLimits.{still_passes}
use Rattle.road_io.proofs.SourceParts.{took_nothing}
use Rattle.session.proofs.OutputFronts.{starts_whole, nothing_put}
use Rattle.osmroad.proofs.OutputFronts.{other_put}
use Rattle.osmroad.specs.StoreLaws.{StoreLaws, ChangeLaws}
use Rattle.osmroad.proofs.Prepared.{will_put, by_failure, prepares, prepares_whole}
use Rattle.osmroad.proofs.LoadedStores.{LeavesKept, stored_weaker, same_history, load_moments, loaded_before}
use Rattle.osmroad.proofs.LoadedStores.{loaded_now, loaded_store, loaded_as_before, left_unput, stand_unput}
use Rattle.session.proofs.KeptStores.{unput}
use Rattle.osmroad.proofs.LoadedStores.{NotLoaded, could_leave, IsRefusal, load_refused}
use Rattle.session.proofs.AnsweredMessages.{line_some}

-- a store loaded, and a change added to it
pub record Applies (l : Loaded) (new : Journal) (change : List Event) (result : Result (Unit {0}) JournalError)
    (w v : Outside) : Type 0 where
  pub between : Outside
  pub loads : LoadsStore (Ok l) w between
  pub adds : Adds l.journal new change result between v

pub told_applies : (l : Loaded) (new : Journal) (change : List Event) (result : Result (Unit {0}) JournalError)
    (x y z : Option Outside) → Told (LoadsStore (Ok l)) x y → Told (Adds l.journal new change result) y z
    → Told (Applies l new change result) x z
told_applies l new change result x y z loads adds =
    told_then x y z (LoadsStore (Ok l)) (Adds l.journal new change result) (Applies l new change result) loads adds
    (λ w u v p q. record { between = u; loads = p; adds = q })

module _ (laws : StoreLaws) (n : Sequence) where
  abbrev command : Option Command
  command = Some (Apply n)

  -- ---- what a stop leaves

  change_moment : (read : List ℕ) (w : Outside) (left : Left) (h : History) → LeavesKept w left h
      → LeavesChange n.0 read w left h
  change_moment read w left h (inl first) = Before first
  change_moment read w left h (inr store) = Without store.files (nothing_put w.output (applied_line n.0) left.out
      (line_some n.0) (subst (λ (o : List ℕ). StartsWith w.output o) (sym store.out) (starts_whole w.output)))

  apply_moments : (read : List ℕ) (result : Result Loaded JournalError) (w v : Outside) → LoadsStore result w v
      → LeavesOnly w v (LeftBy command read w)
  apply_moments read result w v l = only_weaker w v (λ left. LeavesStored (LeavesKept w left) w left)
      (LeftBy command read w) (load_moments laws result w v l)
      (λ left kept. stored_weaker (LeavesKept w left) (LeavesChange n.0 read w left) w left
      (change_moment read w left) kept)

  apply_silent : (loaded : Result Loaded JournalError) (x y : Option Outside) → Told (LoadsStore loaded) x y
      → Told (λ w v. v.output ≡ w.output) x y
  apply_silent loaded x y told =
      told_weaker x y (LoadsStore loaded) (λ w v. v.output ≡ w.output) told (λ w v l. l.output)

  apply_only : (read : List ℕ) (loaded : Result Loaded JournalError) (x y : Option Outside)
      → Told (LoadsStore loaded) x y → Told (λ w v. LeavesOnly w v (LeftBy command read w)) x y
  apply_only read loaded x y told = told_weaker x y (LoadsStore loaded)
      (λ w v. LeavesOnly w v (LeftBy command read w)) told (apply_moments read loaded)

  -- ---- the store isn't loaded

  refused_reads : (files : Option Files) (status : Status) (bytes : List ℕ) → IsRefusal status
      → Reads command files status bytes []
  refused_reads files status bytes (inl is) =
      subst (λ (s : Status). Reads command files s bytes []) (sym is) refl
  refused_reads files status bytes (inr (inl is)) =
      subst (λ (s : Status). Reads command files s bytes []) (sym is) refl
  refused_reads files status bytes (inr (inr is)) =
      subst (λ (s : Status). Reads command files s bytes []) (sym is) (inr (inr refl))

  not_loaded : (bytes : List ℕ) (status : Status) (out : List ℕ) (x y : Option Outside) → IsRefusal status
      → Told (λ w v. NotLoaded w v status out) x y → WillPut command bytes [] status out x y
  not_loaded bytes status out x y is told =
      will_put command bytes [] status out x y (λ w v. NotLoaded w v status out) told
      (inr (inr (inr is))) (refused_reads None status bytes is) tt
      (λ w v n. record {
        replies = inr (inr (inr is));
        reads = refused_reads (files_of (Some w)) status bytes is;
        after = None;
        gives = OfStore n.refusal refl;
        stand = n.still;
        last = λ left a b front. record {
          stored = λ h c. absurd (n.never h c);
          otherwise = λ never. could_leave w v status out n left a b;
        };
      })

  pub apply_refused : (held : Option (List ℕ)) (x y : Option Outside) (e : JournalError)
      (result : Result LastWords Failure) → IsLoadError e → RefusesStore e result → Told (LoadsStore (Err e)) x y
      → Prepares command result held held x y
  apply_refused held x y e result named refuses told =
      let bytes = behind_of held in
      prepares command result [] held held x y (took_nothing held)
      (load_refused laws command bytes x y e result named refuses told tt
      (λ status out is n. not_loaded bytes status out x y is n))
      (apply_silent (Err e) x y told) (apply_only [] (Err e) x y told)

  -- ---- the store stays as it is

  module _ (l : Loaded) (x y : Option Outside) (told : Told (LoadsStore (Ok l)) x y) where
    as_before : Told StandAsBefore x y
    as_before = told_weaker x y (LoadsStore (Ok l)) StandAsBefore told
        (λ w v k. loaded_as_before laws l w v k.answer)

    -- another line is put than that of a change
    not_applied : (bytes read : List ℕ) (status : Status) (out : List ℕ) → IsReply command status
        → ((files : Option Files) → Reads command files status bytes read) → (get_or out 0 0 ≡ 97 → ⊥)
        → ((w v : Outside) → (k : StoreLoaded l w v) → ApplyGives n.0 (reads_of w) bytes status out (Some k.history))
        → WillPut command bytes read status out x y
    not_applied bytes read status out replies reads other gives =
        will_put command bytes read status out x y (LoadsStore (Ok l)) told replies (reads None) tt
        (λ w v loads. let k = loads.answer in record {
          replies = replies;
          reads = reads (files_of (Some w));
          after = Some k.history;
          gives = gives w v k;
          stand = loaded_now laws l w v k;
          last = λ left a b front. record {
            stored = λ h c. Without
                (subst (λ (i : History). StandFor (image_of left) i)
                (same_history laws (reads_of w) k.history h (loaded_before l w v k) c)
                (stand_unput v left k.history
                (laws.stopped l.journal k.history v (unput v left) k.ready (left_unput v left a b)).files))
                (other_put w.output out (applied_line n.0) left.out (line_some n.0) other
                (subst (λ (o : List ℕ). StartsWith (o ++ out) left.out) loads.output front));
            otherwise = λ never. absurd (never k.history (loaded_before l w v k));
          };
        })

    -- the number isn't the next one
    out_of_sequence : (read : List ℕ) → (PassesLimit read → ⊥) → (IsNext l.journal n → ⊥)
        → WillPut command read read OutOfSequenceStatus (sequence_line n.0 l.journal.kept.0) x y
    out_of_sequence read within other =
        not_applied read read OutOfSequenceStatus (sequence_line n.0 l.journal.kept.0) (inr (inr (inl refl)))
        (λ files. refl) (λ e. let k : 115 ≡ 97 = e in omega arith)
        (λ w v k. OfSequence (loaded_store l w v k) within
        (λ e. other (e ∙ ap (λ (m : ℕ). m + 1) (sym k.ready.at.last)))
        refl (ap (λ (m : ℕ). sequence_line n.0 m) k.ready.at.last) refl)

    too_much : (read behind : List ℕ) → PassesAtLast PassesLimit read
        → WillPut command (read ++ behind) read Limit limit_line x y
    too_much read behind passes =
        not_applied (read ++ behind) read Limit limit_line (inr (inr (inr (inr (inr refl)))))
        (λ files. inl passes) (λ e. let k : 108 ≡ 97 = e in omega arith)
        (λ w v k. OfTooMuch (loaded_store l w v k) (still_passes read behind passes.passes) refl refl refl)

    module _ (held left : Option (List ℕ)) (faults_before faults_now : ℕ) where
      -- the change is in fault: its number is looked at first
      change_refused : (fault : Fault) (result : Result LastWords Failure)
          → Stopped Change (RefusedInput fault) held left faults_before faults_now
          → RefusesChange l.journal n fault result → Prepares command result held left x y
      change_refused fault result s refuses =
          prepares_whole command result s.read held left x y s.took s.cause.0 (⊎_elim
          (λ r. replied command s.read s.read Refused (refused_line (fault_at fault)) result x y r.1
          (not_applied s.read s.read Refused (refused_line (fault_at fault)) (inr (inl refl)) (λ files. refl)
          (λ e. let k : 114 ≡ 97 = e in omega arith)
          (λ w v k. OfFault (loaded_store l w v k) s.cause.1
          (r.0 ∙ ap (λ (m : ℕ). m + 1) k.ready.at.last) (fault_at fault) s.cause.2 refl refl refl)) as_before)
          (λ r. replied command s.read s.read OutOfSequenceStatus (sequence_line n.0 l.journal.kept.0) result x y r.1
          (out_of_sequence s.read s.cause.1 r.0) as_before)
          refuses)
          (apply_silent (Ok l) x y told) (apply_only s.read (Ok l) x y told)

      -- the change isn't read
      change_unread : (error : InputError) (result : Result LastWords Failure)
          → ((fault : Fault) → error ≡ RefusedInput fault → ⊥)
          → Stopped Change error held left faults_before faults_now
          → RefusesInput error result → Prepares command result held left x y
      change_unread error result no_fault s refuses =
          prepares command result s.read held left x y s.took (answer error no_fault s refuses)
          (apply_silent (Ok l) x y told) (apply_only s.read (Ok l) x y told)
        where
          answer : (error : InputError) → ((fault : Fault) → error ≡ RefusedInput fault → ⊥)
              → (s : Stopped Change error held left faults_before faults_now) → RefusesInput error result
              → IsPrepared command (s.read ++ behind_of left) s.read result x y
          answer Failed other s is = by_failure command (s.read ++ behind_of left) s.read x y ReadFault result is
              (tt, s.cause.1, as_before)
          answer TooLong other s says = replied command (s.read ++ behind_of left) s.read Limit limit_line result x y
              says (too_much s.read (behind_of left) s.cause) as_before
          answer (RefusedInput fault) other s says = absurd (other fault refl)
          answer NoMemoryInput other s is =
              by_failure command (s.read ++ behind_of left) s.read x y NoMemoryFailure result is as_before

      -- the change isn't read, or is in fault
      pub unread_refused : (error : InputError) (result : Result LastWords Failure)
          → Stopped Change error held left faults_before faults_now
          → ((fault : Fault) → error ≡ RefusedInput fault → RefusesChange l.journal n fault result)
          → (((fault : Fault) → error ≡ RefusedInput fault → ⊥) → RefusesInput error result)
          → Prepares command result held left x y
      unread_refused Failed result s fault other =
          change_unread Failed result (λ f e. (cc)) s (other (λ f e. (cc)))
      unread_refused TooLong result s fault other =
          change_unread TooLong result (λ f e. (cc)) s (other (λ f e. (cc)))
      unread_refused (RefusedInput f) result s fault other = change_refused f result s (fault f refl)
      unread_refused NoMemoryInput result s fault other =
          change_unread NoMemoryInput result (λ f e. (cc)) s (other (λ f e. (cc)))

    -- memory ends for the line
    pub change_failed : (held left : Option (List ℕ)) (events : List Event) (result : Result LastWords Failure)
        → result ≡ Err NoMemoryFailure → ReadWhole Change events held left → Prepares command result held left x y
    change_failed held left events result is r =
        prepares_whole command result r.bytes held left x y r.took r.ended
        (by_failure command r.bytes r.bytes x y NoMemoryFailure result is as_before)
        (apply_silent (Ok l) x y told) (apply_only r.bytes (Ok l) x y told)

    -- the file has no room for the change
    full_file : (read : List ℕ) (events : List Event) → AreInput Change read events → IsNext l.journal n
        → 2 ^ 40 < l.journal.gate + (18 + length (events_bytes events))
        → WillPut command read read Limit limit_line x y
    full_file read events input next large =
        not_applied read read Limit limit_line (inr (inr (inr (inr (inr refl))))) (λ files. inr (inl refl))
        (λ e. let k : 108 ≡ 97 = e in omega arith)
        (λ w v k. OfFullFile (loaded_store l w v k) (next ∙ ap (λ (m : ℕ). m + 1) k.ready.at.last) events input
        (subst (λ (m : ℕ). 2 ^ 40 < m + (18 + length (events_bytes events))) k.ready.at.gate large) refl refl refl)

  -- ---- a change is added

  module _ (change_laws : ChangeLaws) (l : Loaded) (new : Journal) (change : List Event) (read : List ℕ)
      (input : AreInput Change read change) where
    -- how the number of a change follows the history that it is added to
    follows : (w u : Outside) → (k : StoreLoaded l w u) → IsNext l.journal n → (h : History) → k.history ≡ h
        → n.0 ≡ kept h + 1
    follows w u k next h same =
        next ∙ ap (λ (m : ℕ). m + 1) (k.ready.at.last ∙ ap (λ (i : History). kept i) same)

    added_moments : (result : Result (Unit {0}) JournalError) → IsNext l.journal n → (w v : Outside)
        → Applies l new change result w v → LeavesOnly w v (LeftBy command read w)
    added_moments result next w v a =
        let k = a.loads.answer in
        then_runs w a.between v (LeftBy command read w) (LeavesEither k.history change a.between.output)
        (apply_moments read (Ok l) w a.between a.loads)
        (change_laws.stopped l.journal new k.history change result a.between v k.ready a.adds)
        (λ left either. record {
          stored = λ h c.
              let same : k.history ≡ h = same_history laws (reads_of w) k.history h
              (loaded_before l w a.between k) c in
              ⊎_elim
              (λ without. Without (subst (λ (i : History). StandFor (image_of left) i) same without)
              (nothing_put w.output (applied_line n.0) left.out (line_some n.0)
              (subst (λ (o : List ℕ). StartsWith w.output o) (sym (either.out ∙ a.loads.output))
              (starts_whole w.output))))
              (λ with. With (follows w a.between k next h same) change input
              (subst (λ (i : History). StandFor (image_of left) (with_change i change)) same with))
              either.files;
          otherwise = λ never. absurd (never k.history (loaded_before l w a.between k));
        })

    module _ (faults_before faults_now : ℕ) (x y : Option Outside) (held left : Option (List ℕ))
        (took : Took read held left) (ended : Ended left) where
      changed : (u : Unit {0}) → AddAnswer l.journal new n change (Ok u) faults_before faults_now → (w v : Outside)
          → Applies l new change (Ok u) w v → WillPut command read read Done (applied_line n.0) (Some w) (Some v)
      changed u answer w v a =
          let k = a.loads.answer in
          let on : IsOnStore new (with_change k.history change) v = change_laws.ok l.journal new k.history n change u
          a.between v faults_before faults_now k.ready answer a.adds in
          record {
            replies = inl refl;
            reads = refl;
            after = Some (with_change k.history change);
            gives = OfChange (loaded_store l w a.between k)
                (next ∙ ap (λ (m : ℕ). m + 1) k.ready.at.last) change input
                (subst (λ (m : ℕ). m + (18 + length (events_bytes change)) ≤ 2 ^ 40) k.ready.at.gate answer.0.room)
                refl refl refl;
            stand = (
              new.file,
              new.generation,
              laws.stand new (with_change k.history change) v on,
              change_laws.small l.journal new k.history n change u a.between v faults_before faults_now k.ready answer
                  a.adds,
            );
            last = λ left a_image b_image front. record {
              stored = λ h c.
                  let same : k.history ≡ h = same_history laws (reads_of w) k.history h
                  (loaded_before l w a.between k) c in
                  With (follows w a.between k next h same) change input
                  (subst (λ (i : History). StandFor (image_of left) (with_change i change)) same
                  (stand_unput v left (with_change k.history change)
                  (laws.stopped new (with_change k.history change) v (unput v left) on
                  (left_unput v left a_image b_image)).files));
              otherwise = λ never. absurd (never k.history (loaded_before l w a.between k));
            };
          }
        where
          next : IsNext l.journal n
          next = answer.0.next

      put_line : (u : Unit {0}) → AddAnswer l.journal new n change (Ok u) faults_before faults_now
          → Told (Applies l new change (Ok u)) x y → WillPut command read read Done (applied_line n.0) x y
      put_line u answer told = will_put command read read Done (applied_line n.0) x y (Applies l new change (Ok u))
          told (inl refl) refl tt (changed u answer)

      pub change_added : (u : Unit {0}) (r : LastWords) → Says Done (applied_line n.0) r
          → AddAnswer l.journal new n change (Ok u) faults_before faults_now
          → Told (Applies l new change (Ok u)) x y → Prepares command (Ok r) held left x y
      change_added u r says answer told = prepares_whole command (Ok r) read held left x y took ended
          (subst (λ (s : Status). WillPut command read read s r.out.items x y) (sym says.0)
          (subst (λ (o : List ℕ). WillPut command read read Done o x y) (sym says.1) (put_line u answer told)))
          (told_weaker x y (Applies l new change (Ok u)) (λ w v. v.output ≡ w.output) told
          (λ w v a. (a.adds a.loads.answer.history a.loads.answer.ready.at).output ∙ a.loads.output))
          (told_weaker x y (Applies l new change (Ok u)) (λ w v. LeavesOnly w v (LeftBy command read w)) told
          (added_moments (Ok u) answer.0.next))

      -- a refusal that isn't a fault touches no file
      untouched : (e : JournalError) → ((u v : Outside) → Adds l.journal new change (Err e) u v → v ≡ u)
          → Told (Applies l new change (Err e)) x y → Told (LoadsStore (Ok l)) x y
      untouched e same told = told_weaker x y (Applies l new change (Err e)) (LoadsStore (Ok l)) told
          (λ w v a. subst (λ (u : Outside). LoadsStore (Ok l) w u) (sym (same a.between v a.adds)) a.loads)

      refused_whole : (result : Result LastWords Failure) → Told (LoadsStore (Ok l)) x y
          → IsPrepared command read read result x y → Prepares command result held left x y
      refused_whole result told answer = prepares_whole command result read held left x y took ended answer
          (apply_silent (Ok l) x y told) (apply_only read (Ok l) x y told)

      -- the change isn't added
      pub change_not_added : (e : JournalError) (result : Result LastWords Failure) → l.journal.closed ≡ false
          → AddAnswer l.journal new n change (Err e) faults_before faults_now → RefusesStore e result
          → Told (Applies l new change (Err e)) x y → Prepares command result held left x y
      change_not_added (OutOfSequence a b) result alive answer says told =
          let t = untouched (OutOfSequence a b) (λ u v same. same) told in
          let line : sequence_line b.0 a.0 ≡ sequence_line n.0 l.journal.kept.0 =
          ap (λ (m : Sequence). sequence_line b.0 m.0) answer.2
          ∙ ap (λ (m : Sequence). sequence_line m.0 l.journal.kept.0) answer.3 in
          refused_whole result t (replied command read read OutOfSequenceStatus (sequence_line b.0 a.0) result x y says
          (subst (λ (o : List ℕ). WillPut command read read OutOfSequenceStatus o x y) (sym line)
          (out_of_sequence l x y t read input.within answer.1)) (as_before l x y t))
      change_not_added TooLarge result alive answer says told =
          let t = untouched TooLarge (λ u v same. same) told in
          refused_whole result t (replied command read read Limit limit_line result x y says
          (full_file l x y t read change input answer.1 answer.2) (as_before l x y t))
      change_not_added NoMemory result alive answer is told =
          let t = untouched NoMemory (λ u v same. same) told in
          refused_whole result t (by_failure command read read x y NoMemoryFailure result is (as_before l x y t))
      change_not_added SiteFault result alive answer is told =
          prepares_whole command result read held left x y took ended
          (by_failure command read read x y SiteFailure result is tt)
          (told_weaker x y (Applies l new change (Err SiteFault)) (λ w v. v.output ≡ w.output) told silent)
          (told_weaker x y (Applies l new change (Err SiteFault)) (λ w v. LeavesOnly w v (LeftBy command read w)) told
          (added_moments (Err SiteFault) next))
        where
          next : IsNext l.journal n
          next = ⊎_elim (λ closed. let e : false ≡ true = sym alive ∙ closed.0 in cc) (λ may. may.0.next) answer.0

          silent : (w v : Outside) → Applies l new change (Err SiteFault) w v → v.output ≡ w.output
          silent w v a = ⊎_elim (λ closed. let e : false ≡ true = sym alive ∙ closed.0 in cc)
              (λ adds. (adds.1 a.loads.answer.history a.loads.answer.ready.at).output ∙ a.loads.output) a.adds
      change_not_added (Damaged file offset) result alive answer says told = absurd answer
      change_not_added NoStore result alive answer says told = absurd answer
      change_not_added StoreExists result alive answer says told = absurd answer
