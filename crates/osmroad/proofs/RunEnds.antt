-- How a run ends, from what was prepared and how it was put.
use Rattle.std.proofs.Common.{◌≡◌, ℕ, List, [], ◌++◌, take, drop, Option, None, Some, Ok, Err}
use Rattle.std.proofs.Common.{inl, inr, refl, sym, ap, ◌∙◌, subst, append_assoc, take-append-drop}
use Rattle.std.proofs.lemmas.List.{append-nil}
use Rattle.std.proofs.Transfers.{starts_with_trans, starts_with_of_append}
use Rattle.std.specs.Io.{StartsWith}
use Rattle.road_base.specs.History.{History}
use Rattle.road_io.specs.Told.{Told}
use Rattle.road_io.specs.Disk.{IsImage}
use Rattle.road_io.specs.Outside.{Outside, Left, LeavesOnly, extended}
use Rattle.road_io.proofs.CallRuns.{put_goes_on}
use Rattle.road_io.proofs.ToldCalls.{told_then, told_weaker}
use Rattle.osmroad.specs.declared.command.BaseProfile.{BaseProfile}
use Rattle.osmroad.specs.declared.command.Command.{Command}
use Rattle.osmroad.specs.declared.command.Command.TheVariants.{Compile, Inspect, Sample, Create, Apply}
use Rattle.osmroad.specs.declared.command.Command.TheVariants.{Graph, Audit, Checkpoint}
use Rattle.last_words.specs.declared.words.LastWords.{LastWords}
use Rattle.last_words.specs.declared.words.Failure.{Failure}
use Rattle.last_words.specs.declared.words.Failure.TheVariants.{ReadFault as ReadFailure, SiteFault as SiteFailure}
use Rattle.last_words.specs.declared.words.Failure.TheVariants.{NoMemory as MemoryFailure}
use Rattle.last_words.specs.declared.status.Status.{Status}
use Rattle.last_words.specs.declared.status.Status.TheVariants.{Done, Usage, ReadFault, SiteFault, Refused, Limit}
use Rattle.last_words.specs.declared.status.Status.TheVariants.{NoMemory, OutOfSequence, NoStore, StoreExists, Damaged}
use Rattle.osmroad.specs.Stops.{LeftBy}
use Rattle.last_words.specs.Puts.{Grows, GrowsInto, EndsPut, PutsSome}
use Rattle.osmroad.specs.Run.{IsReading, IsReply, files_of}
use Rattle.session.specs.Conversing.{HeldBytes}
use Rattle.osmroad.specs.Run.{StandAfter, Reads, PutsAll, EndsWith, Ends}
use Rattle.last_words.specs.Replies.{failure_status}
use Rattle.osmroad.specs.Replies.{WillPut, WillFail, Prepares}
use Rattle.session.proofs.HeldSource.{behind_of, held_still}

-- ---- statuses with which something is put

-- it isn't one by which a fault or want of memory ends a run
abbrev pub IsPlain : Status → Type 0
IsPlain ReadFault = ⊥
IsPlain SiteFault = ⊥
IsPlain NoMemory = ⊥
IsPlain status = Unit {0}

plain : (wanted status : Status) → IsPlain wanted → status ≡ wanted → IsPlain status
plain wanted status p is = subst IsPlain (sym is) p

pub reply_is_plain : (command : Option Command) (status : Status) → IsReply command status → IsPlain status
reply_is_plain None status is = plain Usage status tt is
reply_is_plain (Some (Compile n)) status (inl is) = plain Done status tt is
reply_is_plain (Some (Compile n)) status (inr (inl is)) = plain Refused status tt is
reply_is_plain (Some (Compile n)) status (inr (inr is)) = plain Limit status tt is
reply_is_plain (Some Inspect) status (inl is) = plain Done status tt is
reply_is_plain (Some Inspect) status (inr (inl is)) = plain Refused status tt is
reply_is_plain (Some Inspect) status (inr (inr is)) = plain Limit status tt is
reply_is_plain (Some (Sample n)) status is = plain Done status tt is
reply_is_plain (Some (Create n)) status (inl is) = plain Done status tt is
reply_is_plain (Some (Create n)) status (inr (inl is)) = plain Refused status tt is
reply_is_plain (Some (Create n)) status (inr (inr (inl is))) = plain Limit status tt is
reply_is_plain (Some (Create n)) status (inr (inr (inr is))) = plain StoreExists status tt is
reply_is_plain (Some (Apply n)) status (inl is) = plain Done status tt is
reply_is_plain (Some (Apply n)) status (inr (inl is)) = plain Refused status tt is
reply_is_plain (Some (Apply n)) status (inr (inr (inl is))) = plain OutOfSequence status tt is
reply_is_plain (Some (Apply n)) status (inr (inr (inr (inl is)))) = plain NoStore status tt is
reply_is_plain (Some (Apply n)) status (inr (inr (inr (inr (inl is))))) = plain Damaged status tt is
reply_is_plain (Some (Apply n)) status (inr (inr (inr (inr (inr is))))) = plain Limit status tt is
reply_is_plain (Some (Graph moment)) status (inl is) = plain Done status tt is
reply_is_plain (Some (Graph moment)) status (inr (inl is)) = plain NoStore status tt is
reply_is_plain (Some (Graph moment)) status (inr (inr (inl is))) = plain Damaged status tt is
reply_is_plain (Some (Graph moment)) status (inr (inr (inr is))) = plain Limit status tt is
reply_is_plain (Some Audit) status (inl is) = plain Done status tt is
reply_is_plain (Some Audit) status (inr (inl is)) = plain NoStore status tt is
reply_is_plain (Some Audit) status (inr (inr (inl is))) = plain Damaged status tt is
reply_is_plain (Some Audit) status (inr (inr (inr is))) = plain Limit status tt is
reply_is_plain (Some (Checkpoint base)) status (inl is) = plain Done status tt is
reply_is_plain (Some (Checkpoint base)) status (inr (inl is)) = plain NoStore status tt is
reply_is_plain (Some (Checkpoint base)) status (inr (inr (inl is))) = plain Damaged status tt is
reply_is_plain (Some (Checkpoint base)) status (inr (inr (inr is))) = plain Limit status tt is

-- ---- a put, and what was prepared before it

grows_then : (out : List ℕ) (before mid now : Option Outside)
    → Told (λ w v. v.output ≡ w.output) before mid → Grows out mid now → Grows out before now
grows_then out before mid now silent grows =
    told_then before mid now (λ w v. v.output ≡ w.output) (λ w v. v.output ≡ w.output ++ out)
    (λ w v. v.output ≡ w.output ++ out) silent grows (λ w u v e f. f ∙ ap (λ (l : List ℕ). l ++ out) e)

grows_into_then : (out : List ℕ) (before mid now : Option Outside)
    → Told (λ w v. v.output ≡ w.output) before mid → GrowsInto out mid now → GrowsInto out before now
grows_into_then out before mid now silent grows =
    told_then before mid now (λ w v. v.output ≡ w.output) (λ w v. (n : ℕ) × (v.output ≡ w.output ++ take n out))
    (λ w v. (n : ℕ) × (v.output ≡ w.output ++ take n out)) silent grows
    (λ w u v e f. (f.0, f.1 ∙ ap (λ (l : List ℕ). l ++ take f.0 out) e))

pub grows_nothing : (before now : Option Outside) → Told (λ w v. v.output ≡ w.output) before now → Grows [] before now
grows_nothing before now silent = told_weaker before now (λ w v. v.output ≡ w.output) (λ w v. v.output ≡ w.output ++ [])
    silent (λ w v e. e ∙ sym (append-nil w.output))

-- a put changes no file
switched_stands : (base : BaseProfile) (status : Status) (h : History) (w u : Outside) (chunk : List ℕ)
    → StandAfter (Some (Checkpoint base)) status (Some h) w u
    → StandAfter (Some (Checkpoint base)) status (Some h) w (extended chunk u)
switched_stands base Done h w u chunk s = record {
  live = s.live;
  generation = s.generation;
  old = s.old;
  stood = s.stood;
  stand = s.stand;
  small = s.small;
}
switched_stands base Usage h w u chunk s = s
switched_stands base ReadFault h w u chunk s = s
switched_stands base SiteFault h w u chunk s = s
switched_stands base Refused h w u chunk s = s
switched_stands base OutOfSequence h w u chunk s = s
switched_stands base NoStore h w u chunk s = s
switched_stands base StoreExists h w u chunk s = s
switched_stands base Damaged h w u chunk s = s
switched_stands base Limit h w u chunk s = s
switched_stands base NoMemory h w u chunk s = s

extended_stands : (command : Option Command) (status : Status) (after : Option History) (w u : Outside) (chunk : List ℕ)
    → StandAfter command status after w u → StandAfter command status after w (extended chunk u)
extended_stands command status None w u chunk s = s
extended_stands None status (Some h) w u chunk s = s
extended_stands (Some (Compile n)) status (Some h) w u chunk s = s
extended_stands (Some Inspect) status (Some h) w u chunk s = s
extended_stands (Some (Sample n)) status (Some h) w u chunk s = s
extended_stands (Some (Create n)) status (Some h) w u chunk s = s
extended_stands (Some (Apply n)) status (Some h) w u chunk s = s
extended_stands (Some (Graph moment)) status (Some h) w u chunk s = s
extended_stands (Some Audit) status (Some h) w u chunk s = s
extended_stands (Some (Checkpoint base)) status (Some h) w u chunk s =
    switched_stands base status h w u chunk s

module _ (command : Option Command) (out : List ℕ) where
  still_stands : (status : Status) (after : Option History) (w u v : Outside) → StandAfter command status after w u
      → PutsSome out u v → StandAfter command status after w v
  still_stands status after w u v s (inl same) =
      subst (λ (x : Outside). StandAfter command status after w x) (sym same) s
  still_stands status after w u v s (inr put) =
      subst (λ (x : Outside). StandAfter command status after w x) (sym put.1)
      (extended_stands command status after w u (take put.0 out) s)

  -- what a stop leaves while a front of the output is put
  abbrev pub IsLastLeft : List ℕ → Outside → Outside → Type 0
  IsLastLeft read w u = (left : Left) → IsImage u.a left.a → IsImage u.b left.b → StartsWith (u.output ++ out) left.out
      → LeftBy command read w left

  front_begins : (u : Outside) (n : ℕ) → StartsWith (u.output ++ out) (u.output ++ take n out)
  front_begins u n = starts_with_of_append (u.output ++ out) (u.output ++ take n out) (drop n out)
      (ap (λ (l : List ℕ). u.output ++ l) (sym (take-append-drop n out))
      ∙ sym (append_assoc u.output (take n out) (drop n out)))

  put_leaves : (read : List ℕ) (w u v : Outside) → LeavesOnly w u (LeftBy command read w)
      → IsLastLeft read w u → PutsSome out u v → LeavesOnly w v (LeftBy command read w)
  put_leaves read w u v only last (inl same) =
      subst (λ (x : Outside). LeavesOnly w x (LeftBy command read w)) (sym same) only
  put_leaves read w u v only last (inr put) =
      put_goes_on w u v (LeftBy command read w) (take put.0 out) only put.1 (λ left a b s. last left a b
      (starts_with_trans (u.output ++ out) (u.output ++ take put.0 out) left.out (front_begins u put.0) s))

  told_leaves : (read : List ℕ) (before mid now : Option Outside)
      → Told (λ w v. LeavesOnly w v (LeftBy command read w)) before mid → Told (IsLastLeft read) before mid
      → Told (PutsSome out) mid now → Told (λ w v. LeavesOnly w v (LeftBy command read w)) before now
  told_leaves read None None None only last put = tt
  told_leaves read None None (Some v) only last put = absurd put
  told_leaves read None (Some u) now only last put = absurd only
  told_leaves read (Some w) None now only last put = absurd only
  told_leaves read (Some w) (Some u) None only last put = absurd put
  told_leaves read (Some w) (Some u) (Some v) only last put = put_leaves read w u v only last put

-- ---- something was put

reads_at_fault : (command : Option Command) (before : Option Outside) (status : Status) (bytes read : List ℕ)
    → Reads command (files_of before) status bytes read → Reads command (files_of before) SiteFault bytes read
reads_at_fault None before status bytes read reads = reads
reads_at_fault (Some (Compile n)) before status bytes read reads = tt
reads_at_fault (Some Inspect) before status bytes read reads = tt
reads_at_fault (Some (Sample n)) before status bytes read reads = reads
reads_at_fault (Some (Create n)) before status bytes read reads = tt
reads_at_fault (Some (Apply n)) before status bytes read reads = tt
reads_at_fault (Some (Graph moment)) before status bytes read reads = reads
reads_at_fault (Some Audit) before status bytes read reads = reads
reads_at_fault (Some (Checkpoint base)) before status bytes read reads = reads

all_is_put : (command : Option Command) (bytes read : List ℕ) (status : Status) (before now : Option Outside)
    → IsPlain status → PutsAll command bytes status before now → EndsWith command bytes read status before now
all_is_put command bytes read Done before now p puts = puts
all_is_put command bytes read Usage before now p puts = puts
all_is_put command bytes read ReadFault before now p puts = absurd p
all_is_put command bytes read SiteFault before now p puts = absurd p
all_is_put command bytes read Refused before now p puts = puts
all_is_put command bytes read OutOfSequence before now p puts = puts
all_is_put command bytes read NoStore before now p puts = puts
all_is_put command bytes read StoreExists before now p puts = puts
all_is_put command bytes read Damaged before now p puts = puts
all_is_put command bytes read Limit before now p puts = puts
all_is_put command bytes read NoMemory before now p puts = absurd p

module _ (command : Option Command) (before mid now : Option Outside) (faults_mid faults_now : ℕ)
    (held left : Option (List ℕ)) where
  pub ends_put : (wanted : Status) (out bytes read behind : List ℕ) → bytes ≡ read ++ behind
      → HeldBytes bytes behind held left
      → WillPut command bytes read wanted out before mid
      → Told (λ w v. v.output ≡ w.output) before mid
      → Told (λ w v. LeavesOnly w v (LeftBy command read w)) before mid
      → Told (PutsSome out) mid now
      → (status : Status) → EndsPut out wanted status mid now faults_mid faults_now
      → Ends command status held left before now
  ends_put wanted out bytes read behind all holds will silent only put status ends = go ends
    where
      stand : Told (StandAfter command wanted will.after) before now
      stand = told_then before mid now (StandAfter command wanted will.after) (PutsSome out)
          (StandAfter command wanted will.after) will.stand put
          (λ w u v. still_stands command out wanted will.after w u v)

      stops : Told (λ w v. LeavesOnly w v (LeftBy command read w)) before now
      stops = told_leaves command out read before mid now only will.last put

      ended : (s : Status) → Reads command (files_of before) s bytes read → EndsWith command bytes read s before now
          → Ends command s held left before now
      ended s reads puts = record {
        bytes = bytes;
        read = read;
        behind = behind;
        all = all;
        holds = holds;
        reads = reads;
        puts = puts;
        stops = stops;
      }

      go : EndsPut out wanted status mid now faults_mid faults_now → Ends command status held left before now
      go (inl p) = subst (λ (s : Status). Ends command s held left before now) (sym p.0) (ended wanted will.reads
          (all_is_put command bytes read wanted before now (reply_is_plain command wanted will.replies) (record {
            out = out;
            after = will.after;
            gives = will.gives;
            grows = grows_then out before mid now silent p.1;
            stand = stand;
          })))
      go (inr p) = subst (λ (s : Status). Ends command s held left before now) (sym p.0) (ended SiteFault
          (reads_at_fault command before wanted bytes read will.reads) (inl (record {
            status = wanted;
            out = out;
            after = will.after;
            reads = will.reads;
            gives = will.gives;
            grows = grows_into_then out before mid now silent p.1;
            stand = stand;
          })))

  -- what was prepared is put
  pub ends_prepared : (reply : LastWords) → Prepares command (Ok reply) held left before mid
      → Told (PutsSome reply.out.items) mid now
      → (status : Status) → EndsPut reply.out.items reply.status status mid now faults_mid faults_now
      → Ends command status held left before now
  ends_prepared reply p put status ends =
      ends_put reply.status reply.out.items p.bytes p.read p.behind p.all p.holds p.answer p.silent p.only put status
      ends

-- ---- nothing was put

fails_alike : (command : Option Command) (read other : List ℕ) (failure : Failure) (before now : Option Outside)
    → (IsReading command → ⊥) → WillFail command read failure before now → WillFail command other failure before now
fails_alike command read other ReadFailure before now none fails = absurd (none fails.0)
fails_alike command read other SiteFailure before now none fails = fails
fails_alike command read other MemoryFailure before now none fails = fails

reads_as_failed : (command : Command) (bytes read : List ℕ) (failure : Failure) (before now : Option Outside)
    → IsReading (Some command) → WillFail (Some command) read failure before now
    → Reads (Some command) (files_of before) (failure_status failure) bytes read
reads_as_failed (Compile n) bytes read ReadFailure before now is fails = fails.1
reads_as_failed (Compile n) bytes read SiteFailure before now is fails = tt
reads_as_failed (Compile n) bytes read MemoryFailure before now is fails = tt
reads_as_failed Inspect bytes read ReadFailure before now is fails = fails.1
reads_as_failed Inspect bytes read SiteFailure before now is fails = tt
reads_as_failed Inspect bytes read MemoryFailure before now is fails = tt
reads_as_failed (Sample n) bytes read failure before now is fails = absurd is
reads_as_failed (Create n) bytes read ReadFailure before now is fails = fails.1
reads_as_failed (Create n) bytes read SiteFailure before now is fails = tt
reads_as_failed (Create n) bytes read MemoryFailure before now is fails = tt
reads_as_failed (Apply n) bytes read ReadFailure before now is fails = fails.1
reads_as_failed (Apply n) bytes read SiteFailure before now is fails = tt
reads_as_failed (Apply n) bytes read MemoryFailure before now is fails = tt
reads_as_failed (Graph moment) bytes read failure before now is fails = absurd is
reads_as_failed Audit bytes read failure before now is fails = absurd is
reads_as_failed (Checkpoint base) bytes read failure before now is fails = absurd is

module _ (command : Option Command) (held left : Option (List ℕ)) (before now : Option Outside)
    (silent : Told (λ w v. v.output ≡ w.output) before now) where
  fails_with : (bytes read : List ℕ) (failure : Failure) → WillFail command read failure before now
      → EndsWith command bytes read (failure_status failure) before now
  fails_with bytes read ReadFailure fails = (grows_nothing before now silent, fails.2)
  fails_with bytes read SiteFailure fails = inr (fails, grows_nothing before now silent)
  fails_with bytes read MemoryFailure fails = (grows_nothing before now silent, fails)

  ends_failing : (bytes read behind : List ℕ) (failure : Failure) → bytes ≡ read ++ behind
      → HeldBytes bytes behind held left → WillFail command read failure before now
      → Reads command (files_of before) (failure_status failure) bytes read
      → Told (λ w v. LeavesOnly w v (LeftBy command read w)) before now
      → Ends command (failure_status failure) held left before now
  ends_failing bytes read behind failure all holds fails reads only = record {
    bytes = bytes;
    read = read;
    behind = behind;
    all = all;
    holds = holds;
    reads = reads;
    puts = fails_with bytes read failure fails;
    stops = only;
  }

module _ (failure : Failure) (held left : Option (List ℕ)) (before now : Option Outside) where
  -- what was prepared by a command that reads its source
  ends_reading : (command : Command) → IsReading (Some command)
      → Prepares (Some command) (Err failure) held left before now
      → Ends (Some command) (failure_status failure) held left before now
  ends_reading command is p =
      ends_failing (Some command) held left before now p.silent p.bytes p.read p.behind failure p.all p.holds p.answer
      (reads_as_failed command p.bytes p.read failure before now is p.answer) p.only

  nothing_held : left ≡ held → HeldBytes (behind_of held) (behind_of held) held left
  nothing_held same =
      subst (λ (l : Option (List ℕ)). HeldBytes (behind_of held) (behind_of held) held l) (sym same) (held_still held)

  -- and by one that doesn't, and leaves it as it was
  ends_unread : (command : Command) → (IsReading (Some command) → ⊥)
      → Reads (Some command) (files_of before) (failure_status failure) (behind_of held) [] → left ≡ held
      → (p : Prepares (Some command) (Err failure) held left before now)
      → Told (λ w v. LeavesOnly w v (LeftBy (Some command) [] w)) before now
      → Ends (Some command) (failure_status failure) held left before now
  ends_unread command none reads same p only =
      ends_failing (Some command) held left before now p.silent (behind_of held) [] (behind_of held) failure refl
      (nothing_held same) (fails_alike (Some command) p.read [] failure before now none p.answer) reads only

  pub ends_failed : (command : Command) → ((IsReading (Some command) → ⊥) → left ≡ held)
      → Prepares (Some command) (Err failure) held left before now
      → Ends (Some command) (failure_status failure) held left before now
  ends_failed (Compile n) unread p = ends_reading (Compile n) tt p
  ends_failed Inspect unread p = ends_reading Inspect tt p
  ends_failed (Create n) unread p = ends_reading (Create n) tt p
  ends_failed (Apply n) unread p = ends_reading (Apply n) tt p
  ends_failed (Sample n) unread p = ends_unread (Sample n) (λ is. is) refl (unread (λ is. is)) p p.only
  ends_failed (Graph moment) unread p = ends_unread (Graph moment) (λ is. is) refl (unread (λ is. is)) p p.only
  ends_failed Audit unread p = ends_unread Audit (λ is. is) refl (unread (λ is. is)) p p.only
  ends_failed (Checkpoint base) unread p =
      ends_unread (Checkpoint base) (λ is. is) refl (unread (λ is. is)) p p.only
