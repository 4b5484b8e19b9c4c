-- A session whose store isn't loaded: what is put, how the run ends, and what a stop leaves.
use Rattle.std.proofs.Common.{◌≡◌, inl, inr, ℕ, ◌<◌, List, [], ◌++◌, take, Option, None, Some, false}
use Rattle.std.proofs.Common.{Result, Ok, Err, refl, sym, ◌∙◌, ap, subst, arith}
use Rattle.road_io.specs.Told.{Told, Rose}
use Rattle.road_io.specs.Outside.{Outside, LeavesOnly}
use Rattle.road_io.proofs.ToldCalls.{told_then, told_weaker}
use Rattle.road_io.proofs.CallRuns.{put_goes_on}
use Rattle.sequence_journal.specs.declared.error.JournalError.{JournalError}
use Rattle.sequence_journal.specs.declared.error.JournalError.TheVariants.{OutOfSequence, Damaged, StoreExists}
use Rattle.sequence_journal.specs.declared.error.JournalError.TheVariants.{TooLarge}
use Rattle.sequence_journal.specs.declared.error.JournalError.TheVariants.{SiteFault as SiteFaultError}
use Rattle.sequence_journal.specs.declared.error.JournalError.TheVariants.{NoStore as NoStoreError}
use Rattle.sequence_journal.specs.declared.error.JournalError.TheVariants.{NoMemory as NoMemoryError}
use Rattle.sequence_journal.specs.declared.load.Loaded.{Loaded}
use Rattle.sequence_journal.specs.Journal.{CountsFaults}
use Rattle.store_switch.specs.StoreLoading.{StillRead, LoadsStore, IsLoadError}
use Rattle.last_words.specs.declared.words.LastWords.{LastWords}
use Rattle.last_words.specs.declared.words.Failure.{Failure}
use Rattle.last_words.specs.declared.words.Failure.TheVariants.{ReadFault as ReadFailure, SiteFault as SiteFailure}
use Rattle.last_words.specs.declared.words.Failure.TheVariants.{NoMemory as MemoryFailure}
use Rattle.last_words.specs.declared.status.Status.{Status}
use Rattle.last_words.specs.declared.status.Status.TheVariants.{Done, Usage, ReadFault, SiteFault, Refused, Limit}
use Rattle.last_words.specs.declared.status.Status.TheVariants.{NoMemory, NoStore, StoreExists as StoreExistsStatus}
use Rattle.last_words.specs.declared.status.Status.TheVariants.{Damaged as DamagedStatus, OutOfSequence as SequenceStatus}
use Rattle.last_words.specs.Texts.{limit_line}
use Rattle.osmroad.specs.Texts.{no_store_line, damaged_line}
use Rattle.last_words.specs.Puts.{EndsPut, PutsSome}
use Rattle.last_words.specs.Replies.{Says, failure_status}
use Rattle.osmroad.specs.Replies.{RefusesStore, CountsCalls}
use Rattle.osmroad.specs.StoreLaws.{StoreLaws}
use Rattle.osmroad.specs.Sessions.{IsNotServed, AnswersFaults, PutsLine, OfRefusal, OfFault, OfMemory, LeavesServed}
use Rattle.osmroad.specs.Sessions.{SessionRuns, ReadsSession, EndsSession}
use Rattle.session.proofs.HeldSource.{behind_of, held_still}
use Rattle.osmroad.proofs.AnsweredFaults.{fault_calls}
use Rattle.osmroad.proofs.LoadedStores.{NotLoaded, IsRefusal, could_leave, none_loaded, large_loaded, damaged_loaded}
use Rattle.osmroad.proofs.ServedSessions.{load_leaves}

told_both : (x y : Option Outside) (R S : Outside → Outside → Type 0) → Told R x y → Told S x y
    → Told (λ w v. R w v × S w v) x y
told_both None None R S one two = tt
told_both None (Some v) R S one two = absurd one
told_both (Some w) None R S one two = absurd one
told_both (Some w) (Some v) R S one two = (one, two)

-- ---- the line that says why

not_loaded_as : (status : Status) (out : List ℕ) (reply : LastWords) (w u : Outside) → Says status out reply
    → NotLoaded w u status out → NotLoaded w u reply.status reply.out.items
not_loaded_as status out reply w u says n =
    subst (λ (s : Status). NotLoaded w u s reply.out.items) (sym says.0)
    (subst (λ (l : List ℕ). NotLoaded w u status l) (sym says.1) n)

module _ (laws : StoreLaws) where
  -- a reply that refuses the store says why it isn't loaded
  not_loaded_for : (e : JournalError) (reply : LastWords) (w u : Outside) → IsLoadError e → RefusesStore e (Ok reply)
      → LoadsStore (Err e) w u → NotLoaded w u reply.status reply.out.items
  not_loaded_for NoStoreError reply w u named says l =
      not_loaded_as NoStore no_store_line reply w u says (none_loaded laws w u l)
  not_loaded_for TooLarge reply w u named says l =
      not_loaded_as Limit limit_line reply w u says (large_loaded laws w u l)
  not_loaded_for (Damaged file offset) reply w u named says l =
      not_loaded_as DamagedStatus (damaged_line file offset) reply w u says (damaged_loaded laws file offset w u l)
  not_loaded_for SiteFaultError reply w u named says l = (cc)
  not_loaded_for NoMemoryError reply w u named says l = (cc)
  not_loaded_for StoreExists reply w u named says l = absurd named
  not_loaded_for (OutOfSequence kept got) reply w u named says l = absurd named

  module _ (why status : Status) (line : List ℕ) (w u v : Outside) (n : NotLoaded w u why line) where
    still_read : PutsSome line u v → StillRead w v
    still_read (inl same) = subst (λ (x : Outside). StillRead w x) (sym same) n.still
    still_read (inr put) =
        subst (λ (x : Outside). StillRead w x) (sym put.1) (λ file. n.still file)

    line_stops : PutsSome line u v → LeavesOnly w v (LeavesServed [] false w)
    line_stops (inl same) = subst (λ (x : Outside). LeavesOnly w x (LeavesServed [] false w)) (sym same)
        (load_leaves laws [] false w u n.only)
    line_stops (inr put) =
        put_goes_on w u v (LeavesServed [] false w) (take put.0 line) (load_leaves laws [] false w u n.only) put.1
        (λ left a b front. record {
          stored = λ s. absurd (n.never s.history (s.live, s.generation, s.stands, s.small));
          otherwise = λ never. could_leave w u why line n left a b;
        })

    put_since : u.output ≡ w.output → PutsLine line why status u v → PutsLine line why status w v
    put_since same (inl p) = inl (p.0, p.1 ∙ ap (λ (l : List ℕ). l ++ line) same)
    put_since same (inr p) = inr (p.0, p.1, p.2 ∙ ap (λ (l : List ℕ). l ++ take p.1 line) same)

    line_runs : u.output ≡ w.output → PutsSome line u v → PutsLine line why status u v
        → SessionRuns [] false status w v
    line_runs same some put = record {
      puts = OfRefusal refl why line n.refusal (put_since same put) (still_read some);
      stops = line_stops some;
    }

  put_line : (line : List ℕ) (why status : Status) (y z : Option Outside) (before now : ℕ)
      → EndsPut line why status y z before now → Told (PutsLine line why status) y z
  put_line line why status y z before now (inl p) =
      told_weaker y z (λ u v. v.output ≡ u.output ++ line) (PutsLine line why status) p.1
      (λ u v grows. inl (p.0, grows))
  put_line line why status y z before now (inr p) =
      told_weaker y z (λ u v. (n : ℕ) × (v.output ≡ u.output ++ take n line)) (PutsLine line why status) p.1
      (λ u v grows. inr (p.0, grows.0, grows.1))

  -- it is put
  pub refusal_runs : (e : JournalError) (reply : LastWords) (status : Status) (x y z : Option Outside) (before now : ℕ)
      → IsLoadError e → RefusesStore e (Ok reply) → Told (LoadsStore (Err e)) x y
      → Told (PutsSome reply.out.items) y z → EndsPut reply.out.items reply.status status y z before now
      → Told (SessionRuns [] false status) x z
  refusal_runs e reply status x y z before now named says told files ends =
      let line = reply.out.items in
      let why = reply.status in
      told_then x y z (LoadsStore (Err e)) (λ u v. PutsSome line u v × PutsLine line why status u v)
      (SessionRuns [] false status) told
      (told_both y z (PutsSome line) (PutsLine line why status) files
      (put_line line why status y z before now ends))
      (λ w u v l p. line_runs why status line w u v (not_loaded_for e reply w u named says l) l.output p.0 p.1)

-- ---- nothing is put

module _ (laws : StoreLaws) (w u : Outside) where
  memory_runs : (status : Status) (e : JournalError) → status ≡ NoMemory → LoadsStore (Err e) w u → StillRead w u
      → SessionRuns [] false status w u
  memory_runs status e is l still = record {
    puts = OfMemory refl is l.output still;
    stops = load_leaves laws [] false w u l.any_moment;
  }

  failure_runs : (e : JournalError) (failure : Failure) → IsLoadError e → RefusesStore e (Err failure)
      → LoadsStore (Err e) w u → SessionRuns [] false (failure_status failure) w u
  failure_runs SiteFaultError failure named is l =
      let k : failure ≡ SiteFailure = cc in
      record {
        puts = OfFault refl (ap failure_status k) l.output l.files;
        stops = load_leaves laws [] false w u l.any_moment;
      }
  failure_runs NoMemoryError failure named is l =
      let k : failure ≡ MemoryFailure = cc in
      memory_runs (failure_status failure) NoMemoryError (ap failure_status k) l l.answer.still
  failure_runs NoStoreError failure named is l =
      memory_runs (failure_status failure) NoStoreError (ap failure_status is) l l.answer.1
  failure_runs TooLarge failure named is l =
      memory_runs (failure_status failure) TooLarge (ap failure_status is) l l.answer.still
  failure_runs (Damaged file offset) failure named is l =
      memory_runs (failure_status failure) (Damaged file offset) (ap failure_status is) l l.answer.still
  failure_runs StoreExists failure named is l = absurd named
  failure_runs (OutOfSequence kept got) failure named is l = absurd named

pub failed_runs : StoreLaws → (e : JournalError) (failure : Failure) (x y : Option Outside) → IsLoadError e
    → RefusesStore e (Err failure) → Told (LoadsStore (Err e)) x y
    → Told (SessionRuns [] false (failure_status failure)) x y
failed_runs laws e failure x y named refuses told =
    told_weaker x y (LoadsStore (Err e)) (SessionRuns [] false (failure_status failure)) told
    (λ w u l. failure_runs laws w u e failure named refuses l)

-- ---- statuses

-- a line says that there is no store, or that it is damaged or too large
says_refusal : (e : JournalError) (reply : LastWords) → IsLoadError e → RefusesStore e (Ok reply)
    → IsRefusal reply.status
says_refusal NoStoreError reply named says = inl says.0
says_refusal (Damaged file offset) reply named says = inr (inl says.0)
says_refusal TooLarge reply named says = inr (inr says.0)
says_refusal SiteFaultError reply named says = (cc)
says_refusal NoMemoryError reply named says = (cc)
says_refusal StoreExists reply named says = absurd named
says_refusal (OutOfSequence kept got) reply named says = absurd named

refusal_not_served : (status : Status) → IsRefusal status → IsNotServed status
refusal_not_served status (inl is) = subst IsNotServed (sym is) tt
refusal_not_served status (inr (inl is)) = subst IsNotServed (sym is) tt
refusal_not_served status (inr (inr is)) = subst IsNotServed (sym is) tt

refusal_no_fault : (status : Status) → IsRefusal status → status ≡ SiteFault → ⊥
refusal_no_fault status (inl is) fault = let e : NoStore ≡ SiteFault = sym is ∙ fault in cc
refusal_no_fault status (inr (inl is)) fault = let e : DamagedStatus ≡ SiteFault = sym is ∙ fault in cc
refusal_no_fault status (inr (inr is)) fault = let e : Limit ≡ SiteFault = sym is ∙ fault in cc

pub refusal_named : (e : JournalError) (reply : LastWords) (status : Status) (y z : Option Outside) (before now : ℕ)
    → IsLoadError e → RefusesStore e (Ok reply) → EndsPut reply.out.items reply.status status y z before now
    → IsNotServed status
refusal_named e reply status y z before now named says (inl p) =
    subst IsNotServed (sym p.0) (refusal_not_served reply.status (says_refusal e reply named says))
refusal_named e reply status y z before now named says (inr p) = subst IsNotServed (sym p.0) tt

pub failed_named : (e : JournalError) (failure : Failure) → IsLoadError e → RefusesStore e (Err failure)
    → IsNotServed (failure_status failure)
failed_named e SiteFailure named is = tt
failed_named e MemoryFailure named is = tt
failed_named SiteFaultError ReadFailure named is = (cc)
failed_named NoMemoryError ReadFailure named is = (cc)
failed_named NoStoreError ReadFailure named is = (cc)
failed_named TooLarge ReadFailure named is = (cc)
failed_named (Damaged file offset) ReadFailure named is = (cc)
failed_named StoreExists ReadFailure named is = absurd named
failed_named (OutOfSequence kept got) ReadFailure named is = absurd named

-- ---- faults

pub refusal_calls : (e : JournalError) (reply : LastWords) (status : Status) (y z : Option Outside) (before mid now : ℕ)
    → IsLoadError e → RefusesStore e (Ok reply)
    → CountsFaults before mid (let r : Result Loaded JournalError = Err e in r)
    → EndsPut reply.out.items reply.status status y z mid now → AnswersFaults SiteFault status before now
refusal_calls e reply status y z before mid now named says counts ends = go ends
  where
    calm : mid ≡ before
    calm = (fault_calls {T = Loaded} e (Ok reply) before mid says counts).stays (λ is. (cc))

    go : EndsPut reply.out.items reply.status status y z mid now → AnswersFaults SiteFault status before now
    go (inl p) = record {
      cause = λ fault. absurd (refusal_no_fault reply.status (says_refusal e reply named says) (sym p.0 ∙ fault));
      each = λ rises. absurd (omega (arith, rises, p.2, calm));
    }
    go (inr p) = record {
      cause = λ fault. subst (λ (n : ℕ). Rose n now) calm p.2;
      each = λ rises. p.0;
    }

failed_status : (failure : Failure) → failure_status failure ≡ SiteFault → failure ≡ SiteFailure
failed_status ReadFailure is = (cc)
failed_status SiteFailure is = refl
failed_status MemoryFailure is = (cc)

calls_of_failure : (failure : Failure) (before now : ℕ)
    → CountsCalls before now (let r : Result LastWords Failure = Err failure in r)
    → AnswersFaults SiteFault (failure_status failure) before now
calls_of_failure failure before now counts = record {
  cause = λ fault. counts.cause (ap (λ (f : Failure). Err f) (failed_status failure fault));
  each = λ rises. risen failure counts rises;
}
  where
    risen : (f : Failure) → CountsCalls before now (let r : Result LastWords Failure = Err f in r) → before < now
        → failure_status f ≡ SiteFault
    risen SiteFailure c rises = refl
    risen ReadFailure c rises = absurd (omega (arith, rises, c.stays (λ e. (cc))))
    risen MemoryFailure c rises = absurd (omega (arith, rises, c.stays (λ e. (cc))))

pub failed_calls : (e : JournalError) (failure : Failure) (before now : ℕ) → RefusesStore e (Err failure)
    → CountsFaults before now (let r : Result Loaded JournalError = Err e in r)
    → AnswersFaults SiteFault (failure_status failure) before now
failed_calls e failure before now refuses counts =
    calls_of_failure failure before now (fault_calls {T = Loaded} e (Err failure) before now refuses counts)

-- ---- the run

refused_reads : (status : Status) (bytes : List ℕ) → IsNotServed status → ReadsSession status bytes []
refused_reads Done bytes is = absurd is
refused_reads Usage bytes is = absurd is
refused_reads ReadFault bytes is = absurd is
refused_reads SiteFault bytes is = tt
refused_reads Refused bytes is = absurd is
refused_reads SequenceStatus bytes is = absurd is
refused_reads NoStore bytes is = refl
refused_reads StoreExistsStatus bytes is = absurd is
refused_reads DamagedStatus bytes is = refl
refused_reads Limit bytes is = tt
refused_reads NoMemory bytes is = tt

pub store_is_refused : (status : Status) (held : Option (List ℕ)) (x z : Option Outside) → IsNotServed status
    → Told (SessionRuns [] false status) x z → EndsSession status held held x z
store_is_refused status held x z named runs = record {
  bytes = behind_of held;
  read = [];
  behind = behind_of held;
  all = refl;
  holds = held_still held;
  ended = false;
  source = λ at_end. absurd (cc);
  reads = refused_reads status (behind_of held) named;
  runs = runs;
}

-- no read failed
pub refused_no_read : (status : Status) (faults : ℕ) → IsNotServed status → AnswersFaults ReadFault status faults faults
refused_no_read status faults named = record {
  cause = λ is. absurd (subst IsNotServed is named);
  each = λ rises. absurd (omega (arith, rises));
}
