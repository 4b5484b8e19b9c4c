-- What is prepared to write a checkpoint of a store, or to raise it.
use Rattle.std.proofs.Common.{◌≡◌, inl, inr, ⊎_elim, ℕ, ◌<◌, ◌≤◌, ◌^◌, List, [], ◌∷◌, ◌++◌, length}
use Rattle.std.proofs.Common.{Option, None, Some, Result, Ok, Err, true, false, refl, sym, ◌∙◌, ap, subst, arith}
use Rattle.std.proofs.Common.{codes, get_or, length-append}
use Rattle.std.specs.Io.{StartsWith}
use Rattle.std.specs.Fmt.{decimal}
use Rattle.std.specs.FinMap.{empty}
use Rattle.road_base.specs.declared.event.Event.{Event}
use Rattle.road_base.specs.History.{History, HasObjects, kept}
use Rattle.road_base.specs.Objects.{Objects}
use Rattle.road_base.specs.Applying.{IsApplied}
use Rattle.road_io.specs.Told.{Told, Rose}
use Rattle.road_io.specs.Outside.{Outside, Left, LeavesOnly, image_of}
use Rattle.road_io.proofs.ToldCalls.{told_weaker, told_then}
use Rattle.road_io.proofs.CallRuns.{only_weaker, then_runs}
use Rattle.sequence_journal.specs.declared.error.JournalError.{JournalError}
use Rattle.sequence_journal.specs.declared.error.JournalError.TheVariants.{OutOfSequence, SiteFault, Damaged, NoStore}
use Rattle.sequence_journal.specs.declared.error.JournalError.TheVariants.{StoreExists, TooLarge, NoMemory}
use Rattle.sequence_journal.specs.declared.journal.Journal.{Journal}
use Rattle.sequence_journal.specs.declared.load.Loaded.{Loaded}
use Rattle.store_switch.specs.LiveFile.{reads_of}
use Rattle.store_switch.specs.TwoFiles.{StandOn, StandFor, IsOnStore}
use Rattle.store_switch.specs.StoreLoading.{StoreLoaded, LoadsStore, IsLoadError}
use Rattle.store_switch.specs.Checkpointing.{AreEntries, checkpoint_of, MayGoOn, IsTooLarge}
use Rattle.store_switch.specs.Checkpointing.{CheckpointAnswer, Checkpoints, LeavesCheckpoint as LeavesOneOf}
use Rattle.osmroad.specs.declared.command.BaseProfile.{BaseProfile}
use Rattle.osmroad.specs.declared.command.BaseProfile.TheVariants.{Kept, Raised}
use Rattle.osmroad.specs.declared.command.Command.{Command}
use Rattle.osmroad.specs.declared.command.Command.TheVariants.{Checkpoint}
use Rattle.last_words.specs.declared.words.LastWords.{LastWords}
use Rattle.last_words.specs.declared.words.Failure.{Failure}
use Rattle.last_words.specs.declared.words.Failure.TheVariants.{SiteFault as SiteFailure, NoMemory as NoMemoryFailure}
use Rattle.last_words.specs.declared.status.Status.{Status}
use Rattle.last_words.specs.declared.status.Status.TheVariants.{Done, Limit}
use Rattle.last_words.specs.Texts.{limit_line}
use Rattle.osmroad.specs.Checkpoints.{AreItsEntries, HasNoRoom, IsCheckpointOf, profile_of_base, base_line}
use Rattle.osmroad.specs.Checkpoints.{checkpointed}
use Rattle.osmroad.specs.Checkpoints.{OfStore, OfNoRoom, OfEntries}
use Rattle.osmroad.specs.Stops.{Before, Without, With}
use Rattle.osmroad.specs.Stops.{LeavesCheckpoint, LeavesStored, LeftBy}
use Rattle.osmroad.specs.Run.{StandAsBefore}
use Rattle.last_words.specs.Replies.{Says}
use Rattle.osmroad.specs.Replies.{RefusesStore, CountsCalls, IsPrepared, WillPut, Prepares}
use Rattle.osmroad.specs.StoreLaws.{StoreLaws, CheckpointLaws}
use Rattle.osmroad.proofs.AnsweredFaults.{failed_calls, reply_calls}
use Rattle.session.proofs.HeldSource.{behind_of}
use Rattle.osmroad.proofs.Replied.{replied}
use Rattle.road_io.proofs.SourceParts.{took_nothing}
use Rattle.session.proofs.OutputFronts.{starts_whole, nothing_put}
use Rattle.osmroad.proofs.OutputFronts.{other_put}
use Rattle.osmroad.proofs.Prepared.{will_put, by_failure, prepares}
use Rattle.osmroad.proofs.LoadedStores.{LeavesKept, stored_weaker, same_history, load_moments, loaded_before}
use Rattle.osmroad.proofs.LoadedStores.{loaded_now, loaded_store, loaded_as_before, left_unput, stand_unput}
use Rattle.session.proofs.KeptStores.{unput}
use Rattle.osmroad.proofs.LoadedStores.{NotLoaded, could_leave, IsRefusal, load_refused}

line_some : (base : BaseProfile) (n : ℕ) → 0 < length (base_line base n)
line_some Kept n = omega (arith, length-append (codes "checkpoint ") (decimal n ++ 10 ∷ []))
line_some Raised n = omega (arith, length-append (codes "profile 2 sequence ") (decimal n ++ 10 ∷ []))

-- no line that tells of a base begins as that of a limit
other_letter : (base : BaseProfile) (n : ℕ) → get_or limit_line 0 0 ≡ get_or (base_line base n) 0 0 → ⊥
other_letter Kept n e = let s : 108 ≡ 99 = e in omega arith
other_letter Raised n e = let s : 108 ≡ 112 = e in omega arith

-- a reader finds in the new base what was there
reads_alike : CheckpointLaws → (base : BaseProfile) (h : History) (objects : Objects) (events : List Event)
    → HasObjects h objects → AreEntries objects events → IsCheckpointOf base (checkpointed base h events) h
reads_alike more Kept h objects events has are = more.same h objects events has are
reads_alike more Raised h objects events has are = more.raised 2 h objects events has are

-- a store loaded, and its checkpoint written
pub record LoadsAndCheckpoints (l : Loaded) (new : Journal) (profile : ℕ) (events : List Event)
    (result : Result (Unit {0}) JournalError) (w v : Outside) : Type 0 where
  pub between : Outside
  pub loads : LoadsStore (Ok l) w between
  pub checkpoints : Checkpoints l.journal new profile events result between v

pub told_checkpoints : (l : Loaded) (new : Journal) (profile : ℕ) (events : List Event)
    (result : Result (Unit {0}) JournalError) (x y z : Option Outside) → Told (LoadsStore (Ok l)) x y
    → Told (Checkpoints l.journal new profile events result) y z
    → Told (LoadsAndCheckpoints l new profile events result) x z
told_checkpoints l new profile events result x y z loads writes =
    told_then x y z (LoadsStore (Ok l)) (Checkpoints l.journal new profile events result)
    (LoadsAndCheckpoints l new profile events result) loads writes
    (λ w u v p q. record { between = u; loads = p; checkpoints = q })

module _ (base : BaseProfile) (laws : StoreLaws) where
  abbrev command : Option Command
  command = Some (Checkpoint base)

  -- ---- what a stop leaves of a load

  moment : (w : Outside) (left : Left) (h : History) → LeavesKept w left h → LeavesCheckpoint base w left h
  moment w left h (inl first) = Before first
  moment w left h (inr store) = Without store.files (nothing_put w.output (base_line base (kept h)) left.out
      (line_some base (kept h))
      (subst (λ (o : List ℕ). StartsWith w.output o) (sym store.out) (starts_whole w.output)))

  moments : (result : Result Loaded JournalError) (w v : Outside) → LoadsStore result w v
      → LeavesOnly w v (LeftBy command [] w)
  moments result w v l = only_weaker w v (λ left. LeavesStored (LeavesKept w left) w left)
      (LeftBy command [] w) (load_moments laws result w v l)
      (λ left kept. stored_weaker (LeavesKept w left) (LeavesCheckpoint base w left) w left (moment w left) kept)

  load_prepares : (held : Option (List ℕ)) (x y : Option Outside) (loaded : Result Loaded JournalError)
      (result : Result LastWords Failure) → Told (LoadsStore loaded) x y
      → IsPrepared command (behind_of held) [] result x y → Prepares command result held held x y
  load_prepares held x y loaded result told answer =
      prepares command result [] held held x y (took_nothing held) answer
      (told_weaker x y (LoadsStore loaded) (λ w v. v.output ≡ w.output) told (λ w v l. l.output))
      (told_weaker x y (LoadsStore loaded) (λ w v. LeavesOnly w v (LeftBy command [] w)) told (moments loaded))

  -- ---- the store isn't loaded

  not_loaded : (bytes : List ℕ) (status : Status) (out : List ℕ) (x y : Option Outside) → IsRefusal status
      → Told (λ w v. NotLoaded w v status out) x y → WillPut command bytes [] status out x y
  not_loaded bytes status out x y is told =
      will_put command bytes [] status out x y (λ w v. NotLoaded w v status out) told (inr is) refl tt
      (λ w v n. record {
        replies = inr is;
        reads = refl;
        after = None;
        gives = OfStore n.refusal refl;
        stand = n.still;
        last = λ left a b front. record {
          stored = λ h c. absurd (n.never h c);
          otherwise = λ never. could_leave w v status out n left a b;
        };
      })

  pub checkpoint_refused : (held : Option (List ℕ)) (x y : Option Outside) (e : JournalError)
      (result : Result LastWords Failure) → IsLoadError e → RefusesStore e result → Told (LoadsStore (Err e)) x y
      → Prepares command result held held x y
  checkpoint_refused held x y e result named refuses told =
      let bytes = behind_of held in
      load_prepares held x y (Err e) result told
      (load_refused laws command bytes x y e result named refuses told tt
      (λ status out is n. not_loaded bytes status out x y is n))

  -- ---- the store stays as it is

  module _ (l : Loaded) (x y : Option Outside) (told : Told (LoadsStore (Ok l)) x y) where
    as_before : Told StandAsBefore x y
    as_before = told_weaker x y (LoadsStore (Ok l)) StandAsBefore told
        (λ w v k. loaded_as_before laws l w v k.answer)

    -- memory ends
    pub checkpoint_failed : (held : Option (List ℕ)) (result : Result LastWords Failure) → result ≡ Err NoMemoryFailure
        → Prepares command result held held x y
    checkpoint_failed held result is = load_prepares held x y (Ok l) result told
        (by_failure command (behind_of held) [] x y NoMemoryFailure result is as_before)

  -- ---- the entries

  module _ (l : Loaded) (objects : Objects) (applied : IsApplied empty l.events.items objects) (events : List Event)
      (are : AreEntries objects events) where
    entries_of : (w v : Outside) → (k : StoreLoaded l w v) → AreItsEntries k.history events
    entries_of w v k = record {
      objects = objects;
      has = subst (λ (es : List Event). IsApplied empty es objects) k.events applied;
      are = are;
    }

    -- there is no room for them
    no_room : (bytes : List ℕ) (x y : Option Outside) → Told (LoadsStore (Ok l)) x y → IsTooLarge l.journal events
        → WillPut command bytes [] Limit limit_line x y
    no_room bytes x y told large =
        will_put command bytes [] Limit limit_line x y (LoadsStore (Ok l)) told (inr (inr (inr refl))) refl tt
        (λ w v loads. let k = loads.answer in record {
          replies = inr (inr (inr refl));
          reads = refl;
          after = Some k.history;
          gives = OfNoRoom (loaded_store l w v k) events (entries_of w v k) large refl refl refl;
          stand = loaded_now laws l w v k;
          last = λ left a b front. record {
            stored = λ h c. Without
                (subst (λ (i : History). StandFor (image_of left) i)
                (same_history laws (reads_of w) k.history h (loaded_before l w v k) c)
                (stand_unput v left k.history
                (laws.stopped l.journal k.history v (unput v left) k.ready (left_unput v left a b)).files))
                (other_put w.output limit_line (base_line base (kept h)) left.out (line_some base (kept h))
                (other_letter base (kept h))
                (subst (λ (o : List ℕ). StartsWith (o ++ limit_line) left.out) loads.output front));
            otherwise = λ never. absurd (never k.history (loaded_before l w v k));
          };
        })

    -- ---- they are written

    module _ (more : CheckpointLaws) (new : Journal) (profile : ℕ)
        (is : profile ≡ profile_of_base base l.journal.profile) where
      -- the profile is the one that the history's base gets
      base_is : (w u : Outside) → (k : StoreLoaded l w u)
          → checkpoint_of profile k.history events ≡ checkpointed base k.history events
      base_is w u k = ap (λ (n : ℕ). checkpoint_of n k.history events)
          (is ∙ ap (λ (n : ℕ). profile_of_base base n) k.ready.at.profile)

      -- what a stop leaves with the checkpoint
      with_entries : (w u : Outside) → (k : StoreLoaded l w u) → (left : Left) (h : History) → k.history ≡ h
          → StandFor (image_of left) (checkpointed base k.history events) → LeavesCheckpoint base w left h
      with_entries w u k left h same stand =
          let its : AreItsEntries h events = subst (λ (i : History). AreItsEntries i events) same (entries_of w u k) in
          With events its (reads_alike more base h its.objects events its.has its.are)
          (subst (λ (i : History). StandFor (image_of left) (checkpointed base i events)) same stand)

      checkpointed_moments : (result : Result (Unit {0}) JournalError) (w v : Outside)
          → LoadsAndCheckpoints l new profile events result w v → LeavesOnly w v (LeftBy command [] w)
      checkpointed_moments result w v a =
          let k = a.loads.answer in
          then_runs w a.between v (LeftBy command [] w) (LeavesOneOf profile k.history events a.between.output)
          (moments (Ok l) w a.between a.loads)
          (more.stopped l.journal new profile k.history events result a.between v k.ready a.checkpoints)
          (λ left either. record {
            stored = λ h c.
                let same : k.history ≡ h = same_history laws (reads_of w) k.history h
                (loaded_before l w a.between k) c in
                ⊎_elim
                (λ without. Without (subst (λ (i : History). StandFor (image_of left) i) same without)
                (nothing_put w.output (base_line base (kept h)) left.out (line_some base (kept h))
                (subst (λ (o : List ℕ). StartsWith w.output o) (sym (either.out ∙ a.loads.output))
                (starts_whole w.output))))
                (λ with. with_entries w a.between k left h same
                (subst (λ (i : History). StandFor (image_of left) i) (base_is w a.between k) with))
                either.files;
            otherwise = λ never. absurd (never k.history (loaded_before l w a.between k));
          })

      module _ (faults_before faults_now : ℕ) (bytes : List ℕ) where
        written : (u : Unit {0}) → CheckpointAnswer l.journal new profile events (Ok u) faults_before faults_now
            → (w v : Outside) → LoadsAndCheckpoints l new profile events (Ok u) w v
            → WillPut command bytes [] Done (base_line base l.journal.kept.0) (Some w) (Some v)
        written u answer w v a =
            let k = a.loads.answer in
            let now = checkpointed base k.history events in
            let on : IsOnStore new now v = subst (λ (i : History). IsOnStore new i v) (base_is w a.between k)
            (more.ok l.journal new profile k.history events u a.between v k.ready a.checkpoints) in
            let small : length (reads_of v new.file) ≤ 2 ^ 40 =
            more.small l.journal new profile k.history events u a.between v faults_before faults_now k.ready answer
            a.checkpoints in
            record {
              replies = inl refl;
              reads = refl;
              after = Some now;
              gives = OfEntries (loaded_store l w a.between k) events (entries_of w a.between k) (has_room answer.0)
                  refl (ap (λ (n : ℕ). base_line base n) k.ready.at.last) refl;
              stand = record {
                live = l.journal.file;
                generation = l.journal.generation;
                old = k.history;
                stood = k.stood;
                stand = subst (λ (j : Journal). StandOn j.file j.generation (reads_of v) now) answer.1
                    (laws.stand new now v on);
                small = subst (λ (j : Journal). length (reads_of v j.file) ≤ 2 ^ 40) answer.1 small;
              };
              last = λ left a_image b_image front. record {
                stored = λ h c.
                    let same : k.history ≡ h = same_history laws (reads_of w) k.history h
                    (loaded_before l w a.between k) c in
                    with_entries w a.between k left h same
                    (stand_unput v left now
                    (laws.stopped new now v (unput v left) on (left_unput v left a_image b_image)).files);
                otherwise = λ never. absurd (never k.history (loaded_before l w a.between k));
              };
            }
          where
            has_room : MayGoOn l.journal events → HasNoRoom l.journal.generation events → ⊥
            has_room may (inl last) = let next = may.next in omega arith
            has_room may (inr large) = let room = may.room in omega arith

        module _ (x y : Option Outside) (held : Option (List ℕ)) (same : bytes ≡ behind_of held) where
          checkpoint_prepares : (result : Result LastWords Failure) (done : Result (Unit {0}) JournalError)
              → ((w v : Outside) → LoadsAndCheckpoints l new profile events done w v → v.output ≡ w.output)
              → Told (LoadsAndCheckpoints l new profile events done) x y → IsPrepared command bytes [] result x y
              → Prepares command result held held x y
          checkpoint_prepares result done silent told answer =
              prepares command result [] held held x y (took_nothing held)
              (subst (λ (b : List ℕ). IsPrepared command b [] result x y) same answer)
              (told_weaker x y (LoadsAndCheckpoints l new profile events done) (λ w v. v.output ≡ w.output) told silent)
              (told_weaker x y (LoadsAndCheckpoints l new profile events done)
              (λ w v. LeavesOnly w v (LeftBy command [] w)) told (checkpointed_moments done))

          pub checkpoint_written : (u : Unit {0}) (r : LastWords) → Says Done (base_line base l.journal.kept.0) r
              → CheckpointAnswer l.journal new profile events (Ok u) faults_before faults_now
              → Told (LoadsAndCheckpoints l new profile events (Ok u)) x y → Prepares command (Ok r) held held x y
          checkpoint_written u r says answer told = checkpoint_prepares (Ok r) (Ok u)
              (λ w v a. (a.checkpoints a.loads.answer.history a.loads.answer.ready).output ∙ a.loads.output) told
              (subst (λ (s : Status). WillPut command bytes [] s r.out.items x y) (sym says.0)
              (subst (λ (o : List ℕ). WillPut command bytes [] Done o x y) (sym says.1)
              (will_put command bytes [] Done (base_line base l.journal.kept.0) x y
              (LoadsAndCheckpoints l new profile events (Ok u)) told (inl refl) refl tt (written u answer))))

          -- a refusal that isn't a fault touches no file
          untouched : (e : JournalError)
              → ((u v : Outside) → Checkpoints l.journal new profile events (Err e) u v → v ≡ u)
              → Told (LoadsAndCheckpoints l new profile events (Err e)) x y → Told (LoadsStore (Ok l)) x y
          untouched e still told =
              told_weaker x y (LoadsAndCheckpoints l new profile events (Err e)) (LoadsStore (Ok l)) told
              (λ w v a. subst (λ (u : Outside). LoadsStore (Ok l) w u) (sym (still a.between v a.checkpoints)) a.loads)

          pub checkpoint_not_written : (e : JournalError) (result : Result LastWords Failure) → l.journal.closed ≡ false
              → CheckpointAnswer l.journal new profile events (Err e) faults_before faults_now → RefusesStore e result
              → Told (LoadsAndCheckpoints l new profile events (Err e)) x y → Prepares command result held held x y
          checkpoint_not_written TooLarge result alive answer says told =
              let t = untouched TooLarge (λ u v still. still) told in
              load_prepares held x y (Ok l) result t
              (replied command (behind_of held) [] Limit limit_line result x y says
              (no_room (behind_of held) x y t answer.1) (as_before l x y t))
          checkpoint_not_written NoMemory result alive answer is told =
              checkpoint_failed l x y (untouched NoMemory (λ u v still. still) told) held result is
          checkpoint_not_written SiteFault result alive answer is told =
              checkpoint_prepares result (Err SiteFault) silent told
              (by_failure command bytes [] x y SiteFailure result is tt)
            where
              silent : (w v : Outside) → LoadsAndCheckpoints l new profile events (Err SiteFault) w v
                  → v.output ≡ w.output
              silent w v a = ⊎_elim (λ closed. let e : false ≡ true = sym alive ∙ closed.0 in cc)
                  (λ writes. (writes.1 a.loads.answer.history a.loads.answer.ready).output ∙ a.loads.output)
                  a.checkpoints
          checkpoint_not_written (OutOfSequence a b) result alive answer says told = absurd answer
          checkpoint_not_written (Damaged file offset) result alive answer says told = absurd answer
          checkpoint_not_written NoStore result alive answer says told = absurd answer
          checkpoint_not_written StoreExists result alive answer says told = absurd answer

-- ---- faults of the site

-- what refuses a checkpoint of a journal that isn't closed, and how often calls failed
pub checkpoint_calls : (old new : Journal) (profile : ℕ) (events : List Event) (e : JournalError)
    (result : Result LastWords Failure) (before now : ℕ) → old.closed ≡ false → RefusesStore e result
    → CheckpointAnswer old new profile events (Err e) before now → CountsCalls before now result
checkpoint_calls old new profile events SiteFault result before now alive is answer =
    record { cause = λ _. rose; stays = λ other. absurd (other is) }
  where
    rose : Rose before now
    rose = ⊎_elim (λ closed. let e : false ≡ true = sym alive ∙ closed.0 in cc) (λ may. may.2) answer.0
checkpoint_calls old new profile events NoMemory result before now alive is answer =
    failed_calls result before now is answer.2
checkpoint_calls old new profile events TooLarge result before now alive says answer =
    reply_calls _ _ result says before now answer.3
checkpoint_calls old new profile events (OutOfSequence kept got) result before now alive says answer = absurd answer
checkpoint_calls old new profile events (Damaged file offset) result before now alive says answer = absurd answer
checkpoint_calls old new profile events NoStore result before now alive says answer = absurd answer
checkpoint_calls old new profile events StoreExists result before now alive says answer = absurd answer
