-- What is prepared to make a store.
use Rattle.std.proofs.Common.{◌≡◌, ◌⊎◌, inl, inr, ⊎_elim, ℕ, ◌<◌, List, [], ◌∷◌, ◌++◌, length, get_or}
use Rattle.std.proofs.Common.{Option, None, Some, Result, Ok, Err, refl, sym, ◌∙◌, ap, subst, arith}
use Rattle.std.proofs.Common.{codes, length-append}
use Rattle.std.specs.Io.{StartsWith}
use Rattle.std.specs.Fmt.{decimal}
use Rattle.road_base.specs.declared.event.Event.{Event}
use Rattle.road_base.specs.declared.ids.Sequence.{Sequence}
use Rattle.road_base.specs.History.{History}
use Rattle.opl_lexer.specs.declared.mode.Mode.TheVariants.{Extract}
use Rattle.opl_objects.specs.StreamLines.{fault_at}
use Rattle.road_io.specs.declared.outside.Which.{Which}
use Rattle.road_io.specs.declared.outside.Which.TheVariants.{A, B}
use Rattle.road_io.specs.Disk.{Disk, IsImage}
use Rattle.road_io.specs.Told.{Told}
use Rattle.road_io.specs.Outside.{Outside, Left, IsLeft, LeavesOnly, Quiet, present}
use Rattle.road_io.proofs.ToldCalls.{told_weaker, told_then}
use Rattle.road_io.proofs.CallRuns.{only_weaker, then_runs}
use Rattle.sequence_journal.specs.declared.error.JournalError.{JournalError}
use Rattle.sequence_journal.specs.declared.error.JournalError.TheVariants.{OutOfSequence, SiteFault, Damaged, NoStore}
use Rattle.sequence_journal.specs.declared.error.JournalError.TheVariants.{StoreExists, TooLarge, NoMemory}
use Rattle.sequence_journal.specs.declared.journal.Journal.{Journal}
use Rattle.sequence_journal.specs.Layout.{NoBase}
use Rattle.sequence_journal.specs.Basing.{base_alone}
use Rattle.store_switch.specs.LiveFile.{IsLive, NoBases, FindsLive, reads_of}
use Rattle.store_switch.specs.TwoFiles.{StandOn, IsOnStore, LeavesStore}
use Rattle.store_switch.specs.StoreLoading.{StillRead}
use Rattle.store_switch.specs.StoreCreating.{CreatesStore, LeavesNewOrNone, IsCreateError}
use Rattle.osmroad.specs.declared.command.Command.{Command}
use Rattle.osmroad.specs.declared.command.Command.TheVariants.{Create}
use Rattle.bounded_input.specs.declared.input.InputError.{InputError}
use Rattle.bounded_input.specs.declared.input.InputError.TheVariants.{Failed, TooLong, Refused as RefusedInput}
use Rattle.bounded_input.specs.declared.input.InputError.TheVariants.{NoMemory as NoMemoryInput}
use Rattle.last_words.specs.declared.words.LastWords.{LastWords}
use Rattle.last_words.specs.declared.words.Failure.{Failure}
use Rattle.last_words.specs.declared.words.Failure.TheVariants.{ReadFault, SiteFault as SiteFailure}
use Rattle.last_words.specs.declared.words.Failure.TheVariants.{NoMemory as NoMemoryFailure}
use Rattle.last_words.specs.declared.status.Status.{Status}
use Rattle.last_words.specs.declared.status.Status.TheVariants.{Done, Refused, Limit, StoreExists as StoreExistsStatus}
use Rattle.last_words.specs.Texts.{limit_line, refused_line}
use Rattle.osmroad.specs.Texts.{created_line, store_exists_line}
use Rattle.bounded_input.specs.Input.{Ended, ReadWhole, Stopped}
use Rattle.road_io.specs.Parts.{Took}
use Rattle.osmroad.specs.Opening.{Files}
use Rattle.osmroad.specs.Outcomes.{AreInput, InputRefusal}
use Rattle.osmroad.specs.Outcomes.{OfOldStore, OfInput, OfExtract, OfTooMuch, OfFault}
use Rattle.osmroad.specs.Stops.{Before, Without, With}
use Rattle.osmroad.specs.Stops.{CouldLeave, LeavesCreated, LeftBy}
use Rattle.osmroad.specs.Run.{IsReply, Reads, StandAsBefore, files_of}
use Rattle.last_words.specs.Replies.{Says, RefusesInput}
use Rattle.osmroad.specs.Replies.{RefusesStore, IsPrepared, WillPut, Prepares}
use Rattle.session.proofs.HeldSource.{behind_of}
use Rattle.osmroad.proofs.Replied.{replied}
use Rattle.bounded_input.proofs.PassedLimits.{still_passes}
use Rattle.road_io.proofs.SourceParts.{took_nothing}
use Rattle.road_io.proofs.QuietRuns.{quiet_left}
use Rattle.session.proofs.OutputFronts.{starts_whole, nothing_put}
use Rattle.osmroad.proofs.OutputFronts.{other_put}
use Rattle.osmroad.proofs.Prepared.{will_put, by_failure, prepares, prepares_whole}
use Rattle.session.proofs.KeptStores.{unput}
use Rattle.osmroad.proofs.LoadedStores.{left_unput, stand_unput}

line_some : (n : ℕ) → 0 < length (created_line n)
line_some n = omega (arith, length-append (codes "created ") (decimal n ++ 10 ∷ []))

still_read : (w v : Outside) → Quiet w v → StillRead w v
still_read w v q A = ap (λ (d : Disk). d.reads) q.same_a
still_read w v q B = ap (λ (d : Disk). d.reads) q.same_b

could_leave : (w v : Outside) → Quiet w v → (left : Left) → IsImage v.a left.a → IsImage v.b left.b → CouldLeave w left
could_leave w v q left a b = record {
  a = subst (λ (d : Disk). IsImage d left.a) q.same_a a;
  b = subst (λ (d : Disk). IsImage d left.b) q.same_b b;
}

-- neither file is live where none has an open base
not_live : (files : Which → List ℕ) → NoBases files → (live : Which) → IsLive live files → ⊥
not_live files none live l = none live l.base l.rest l.is_open

module _ (n : Sequence) where
  abbrev command : Option Command
  command = Some (Create n)

  -- ---- what a stop leaves

  -- before anything is written
  first_moment : (read : List ℕ) (w : Outside) (left : Left) → IsLeft (present w) left → LeavesCreated n.0 read w left
  first_moment read w left l = record {
    created = λ none. Before (record { a = l.a; b = l.b })
        (nothing_put w.output (created_line n.0) left.out (line_some n.0) l.no_more);
    otherwise = λ never. record { a = l.a; b = l.b };
  }

  quiet_moments : (read : List ℕ) (w v : Outside) → Quiet w v → LeavesOnly w v (LeftBy command read w)
  quiet_moments read w v q =
      only_weaker w v (IsLeft (present w)) (LeftBy command read w) q.only (first_moment read w)

  -- ---- what is prepared where the files are only looked at

  module _ (found : Option Which) (x y : Option Outside) (told : Told (FindsLive (Ok found)) x y) where
    looked_silent : Told (λ w v. v.output ≡ w.output) x y
    looked_silent =
        told_weaker x y (FindsLive (Ok found)) (λ w v. v.output ≡ w.output) told (λ w v f. f.quiet.output)

    looked_only : (read : List ℕ) → Told (λ w v. LeavesOnly w v (LeftBy command read w)) x y
    looked_only read = told_weaker x y (FindsLive (Ok found)) (λ w v. LeavesOnly w v (LeftBy command read w)) told
        (λ w v f. quiet_moments read w v f.quiet)

    as_before : Told StandAsBefore x y
    as_before = told_weaker x y (FindsLive (Ok found)) StandAsBefore told (λ w v f. inl (still_read w v f.quiet))

  -- there is a store
  pub store_exists : (held : Option (List ℕ)) (live : Which) (x y : Option Outside) (result : Result LastWords Failure)
      → Told (FindsLive (Ok (Some live))) x y → RefusesStore StoreExists result
      → Prepares command result held held x y
  store_exists held live x y result told says =
      let bytes = behind_of held in
      prepares command result [] held held x y (took_nothing held)
      (replied command bytes [] StoreExistsStatus store_exists_line result x y says
      (will_put command bytes [] StoreExistsStatus store_exists_line x y (FindsLive (Ok (Some live))) told
      (inr (inr (inr refl))) tt tt
      (λ w v f. record {
        replies = inr (inr (inr refl));
        reads = refl;
        after = None;
        gives = OfOldStore live (f.answer.base, f.answer.rest, f.answer.is_open) refl refl refl;
        stand = still_read w v f.quiet;
        last = λ left a b front. record {
          created = λ none. absurd (not_live (reads_of w) none live f.answer);
          otherwise = λ never. could_leave w v f.quiet left a b;
        };
      }))
      (as_before (Some live) x y told))
      (looked_silent (Some live) x y told) (looked_only (Some live) x y told [])

  -- the files aren't looked at
  pub not_looked : (held : Option (List ℕ)) (e : JournalError) (x y : Option Outside)
      (result : Result LastWords Failure) → Told (FindsLive (Err e)) x y → e ≡ SiteFault → RefusesStore e result
      → Prepares command result held held x y
  not_looked held e x y result told fault refuses =
      prepares command result [] held held x y (took_nothing held)
      (by_failure command (behind_of held) [] x y SiteFailure result
      (subst (λ (k : JournalError). RefusesStore k result) fault refuses) tt)
      (told_weaker x y (FindsLive (Err e)) (λ w v. v.output ≡ w.output) told (λ w v f. f.quiet.output))
      (told_weaker x y (FindsLive (Err e)) (λ w v. LeavesOnly w v (LeftBy command [] w)) told
      (λ w v f. quiet_moments [] w v f.quiet))

  -- ---- there is no store, and the extract isn't taken

  module _ (x y : Option Outside) (told : Told (FindsLive (Ok None)) x y) where
    not_taken : (bytes read : List ℕ) (status : Status) (out : List ℕ) → IsReply command status
        → ((files : Option Files) → Reads command files status bytes read)
        → (get_or out 0 0 ≡ 99 → ⊥) → InputRefusal Extract bytes status out
        → WillPut command bytes read status out x y
    not_taken bytes read status out replies reads other refusal =
        will_put command bytes read status out x y (FindsLive (Ok None)) told replies (reads None) tt
        (λ w v f. record {
          replies = replies;
          reads = reads (files_of (Some w));
          after = None;
          gives = OfInput f.answer refusal refl;
          stand = still_read w v f.quiet;
          last = λ left a b front. record {
            created = λ none. Before (could_leave w v f.quiet left a b)
                (other_put w.output out (created_line n.0) left.out (line_some n.0) other
                (subst (λ (o : List ℕ). StartsWith (o ++ out) left.out) f.quiet.output front));
            otherwise = λ never. could_leave w v f.quiet left a b;
          };
        })

    pub extract_unread : (held left : Option (List ℕ)) (faults_before faults_now : ℕ) (error : InputError)
        (result : Result LastWords Failure) → Stopped Extract error held left faults_before faults_now
        → RefusesInput error result → Prepares command result held left x y
    extract_unread held left faults_before faults_now Failed result s is =
        prepares command result s.read held left x y s.took
        (by_failure command (s.read ++ behind_of left) s.read x y ReadFault result is
        (tt, s.cause.1, as_before None x y told))
        (looked_silent None x y told) (looked_only None x y told s.read)
    extract_unread held left faults_before faults_now TooLong result s says =
        prepares command result s.read held left x y s.took
        (replied command (s.read ++ behind_of left) s.read Limit limit_line result x y says
        (not_taken (s.read ++ behind_of left) s.read Limit limit_line (inr (inr (inl refl))) (λ files. s.cause)
        (λ e. let k : 108 ≡ 99 = e in omega arith)
        (OfTooMuch (still_passes s.read (behind_of left) s.cause.passes) refl refl))
        (as_before None x y told))
        (looked_silent None x y told) (looked_only None x y told s.read)
    extract_unread held left faults_before faults_now (RefusedInput fault) result s says =
        prepares_whole command result s.read held left x y s.took s.cause.0
        (replied command s.read s.read Refused (refused_line (fault_at fault)) result x y says
        (not_taken s.read s.read Refused (refused_line (fault_at fault)) (inr (inl refl)) (λ files. refl)
        (λ e. let k : 114 ≡ 99 = e in omega arith) (OfFault s.cause.1 (fault_at fault) s.cause.2 refl refl))
        (as_before None x y told))
        (looked_silent None x y told) (looked_only None x y told s.read)
    extract_unread held left faults_before faults_now NoMemoryInput result s is =
        prepares command result s.read held left x y s.took
        (by_failure command (s.read ++ behind_of left) s.read x y NoMemoryFailure result is
        (as_before None x y told))
        (looked_silent None x y told) (looked_only None x y told s.read)

    -- memory ends for the line
    pub create_failed : (held left : Option (List ℕ)) (events : List Event) (result : Result LastWords Failure)
        → result ≡ Err NoMemoryFailure → ReadWhole Extract events held left → Prepares command result held left x y
    create_failed held left events result is r =
        prepares_whole command result r.bytes held left x y r.took r.ended
        (by_failure command r.bytes r.bytes x y NoMemoryFailure result is (as_before None x y told))
        (looked_silent None x y told) (looked_only None x y told r.bytes)

-- ---- the store is made

-- both files are looked at and have no open base, and a store is made
pub record Creates (number : ℕ) (events : List Event) (result : Result Journal JournalError) (w v : Outside) :
    Type 0 where
  pub between : Outside
  pub finds : FindsLive (Ok None) w between
  pub creates : CreatesStore number events result between v

pub told_creates : (number : ℕ) (events : List Event) (result : Result Journal JournalError) (x y z : Option Outside)
    → Told (FindsLive (Ok None)) x y → Told (CreatesStore number events result) y z
    → Told (Creates number events result) x z
told_creates number events result x y z finds creates =
    told_then x y z (FindsLive (Ok None)) (CreatesStore number events result) (Creates number events result) finds
    creates (λ w u v p q. record { between = u; finds = p; creates = q })

-- a journal on a store: the files stand for its history, and a stop leaves such files
abbrev pub JournalStands : Type 0
JournalStands = (j : Journal) (h : History) (w : Outside) → IsOnStore j h w → StandOn j.file j.generation (reads_of w) h

abbrev pub JournalStopped : Type 0
JournalStopped = (j : Journal) (h : History) (w : Outside) (left : Left)
    → IsOnStore j h w → IsLeft (present w) left → LeavesStore h w.output left

module _ (n : Sequence) (events : List Event) (read : List ℕ) (input : AreInput Extract read events) where
  moments : (result : Result Journal JournalError) (w v : Outside) → Creates n.0 events result w v
      → LeavesOnly w v (LeftBy (command n) read w)
  moments result w v c =
      let q = c.finds.quiet in
      then_runs w c.between v (LeftBy (command n) read w)
      (λ left. IsLeft (present c.between) left ⊎ LeavesNewOrNone n.0 events c.between left)
      (quiet_moments n read w c.between q) c.creates.any_moment
      (λ left. ⊎_elim
      (λ there. first_moment n read w left (quiet_left w c.between q left there))
      (λ new. record {
        created = λ none. ⊎_elim
            (λ without. Without without.0 (nothing_put w.output (created_line n.0) left.out (line_some n.0)
            (subst (λ (o : List ℕ). StartsWith w.output o) (sym (without.1 ∙ q.output)) (starts_whole w.output))))
            (λ with. With events input with.files)
            new.1;
        otherwise = λ never. absurd (never c.finds.answer);
      }))

  create_silent : (result : Result Journal JournalError) (x z : Option Outside) → Told (Creates n.0 events result) x z
      → Told (λ w v. v.output ≡ w.output) x z
  create_silent result x z told = told_weaker x z (Creates n.0 events result) (λ w v. v.output ≡ w.output) told
      (λ w v c. c.creates.output ∙ c.finds.quiet.output)

  create_only : (result : Result Journal JournalError) (x z : Option Outside) → Told (Creates n.0 events result) x z
      → Told (λ w v. LeavesOnly w v (LeftBy (command n) read w)) x z
  create_only result x z told = told_weaker x z (Creates n.0 events result)
      (λ w v. LeavesOnly w v (LeftBy (command n) read w)) told (moments result)

  none_between : (w u : Outside) → FindsLive (Ok None) w u → NoBases (reads_of u)
  none_between w u f file = subst NoBase (sym (still_read w u f.quiet file)) (f.answer file)

  module _ (held left : Option (List ℕ)) (took : Took read held left) (ended : Ended left) (x z : Option Outside) where
    -- the store isn't made
    pub not_created : (e : JournalError) (result : Result LastWords Failure) → IsCreateError e → RefusesStore e result
        → Told (Creates n.0 events (Err e)) x z → Prepares (command n) result held left x z
    not_created e result named refuses told = prepares_whole (command n) result read held left x z took ended
        (answer e named refuses told) (create_silent (Err e) x z told) (create_only (Err e) x z told)
      where
        answer : (e : JournalError) → IsCreateError e → RefusesStore e result → Told (Creates n.0 events (Err e)) x z
            → IsPrepared (command n) read read result x z
        answer SiteFault named is told = by_failure (command n) read read x z SiteFailure result is tt
        answer NoMemory named is told = by_failure (command n) read read x z NoMemoryFailure result is
            (told_weaker x z (Creates n.0 events (Err NoMemory)) StandAsBefore told
            (λ w v c. inl (λ file. c.creates.answer.1.reads file ∙ still_read w c.between c.finds.quiet file)))
        answer StoreExists named says told =
            replied (command n) read read StoreExistsStatus store_exists_line result x z says
            (will_put (command n) read read StoreExistsStatus store_exists_line x z
            (Creates n.0 events (Err StoreExists)) told (inr (inr (inr refl))) tt tt
            (λ w v c. absurd (not_live (reads_of c.between) (none_between w c.between c.finds)
            c.creates.answer.0.0 c.creates.answer.0.1)))
            (told_weaker x z (Creates n.0 events (Err StoreExists)) StandAsBefore told
            (λ w v c. absurd (not_live (reads_of c.between) (none_between w c.between c.finds)
            c.creates.answer.0.0 c.creates.answer.0.1)))
        answer (OutOfSequence a b) named says told = absurd named
        answer (Damaged file offset) named says told = absurd named
        answer NoStore named says told = absurd named
        answer TooLarge named says told = absurd named

    -- the store is made
    pub created : JournalStands → JournalStopped → (j : Journal) (r : LastWords) → Says Done (created_line n.0) r
        → Told (Creates n.0 events (Ok j)) x z → Prepares (command n) (Ok r) held left x z
    created stand stopped j r says told = prepares_whole (command n) (Ok r) read held left x z took ended
        (subst (λ (s : Status). WillPut (command n) read read s r.out.items x z) (sym says.0)
        (subst (λ (o : List ℕ). WillPut (command n) read read Done o x z) (sym says.1) put))
        (create_silent (Ok j) x z told) (create_only (Ok j) x z told)
      where
        put : WillPut (command n) read read Done (created_line n.0) x z
        put = will_put (command n) read read Done (created_line n.0) x z (Creates n.0 events (Ok j)) told
            (inl refl) refl tt
            (λ w v c. let h = base_alone 1 n.0 events in let on = c.creates.answer.ready in record {
              replies = inl refl;
              reads = refl;
              after = Some h;
              gives = OfExtract c.finds.answer events input refl refl refl;
              stand = (j.file, j.generation, stand j h v on);
              last = λ left a b front. record {
                created = λ none. With events input
                    (stand_unput v left h (stopped j h v (unput v left) on (left_unput v left a b)).files);
                otherwise = λ never. absurd (never c.finds.answer);
              };
            })
