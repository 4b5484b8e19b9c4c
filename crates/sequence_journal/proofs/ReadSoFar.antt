-- A history read so far from a file.
use Rattle.std.proofs.Common.{◌≡◌, ◌≢◌, ◌⊎◌, inl, inr, ℕ, ◌+◌, ◌<◌, ◌≤◌, ◌^◌, List, [], ◌∷◌, ◌++◌, length}
use Rattle.std.proofs.Common.{take, drop, Vec, Bool}
use Rattle.std.proofs.Common.{true, false, Some, None, Result, Ok, Err, refl, sym, ◌∙◌, ap, subst, arith}
use Rattle.std.proofs.Common.{length-append}
use Rattle.std.proofs.Common.{append-nil, true≢false}
use Rattle.std.proofs.lemmas.List.{length-drop, length-take, flat_map_more}
use Rattle.std.specs.declared.alloc.Global.{Global}
use Rattle.road_base.specs.declared.event.Event.{Event}
use Rattle.road_base.specs.Profiles.{IsProfile, is_profile_number}
use Rattle.road_base.specs.History.{History, kept, with_change}
use Rattle.object_codec.specs.Spelling.{events_bytes, AreEvents}
use Rattle.road_io.specs.declared.outside.Which.{Which}
use Rattle.road_io.specs.Disk.{Disk}
use Rattle.road_io.specs.Outside.{Outside, Quiet, disk}
use Rattle.road_io.proofs.QuietRuns.{quiet_start, quiet_then, quiet_disk}
use Rattle.sequence_journal.specs.declared.error.JournalError.{JournalError}
use Rattle.sequence_journal.specs.declared.error.JournalError.TheVariants.{SiteFault, Damaged, NoStore, TooLarge}
use Rattle.sequence_journal.specs.declared.error.JournalError.TheVariants.{NoMemory}
use Rattle.sequence_journal.specs.declared.heads.FoundBase.{FoundBase}
use Rattle.sequence_journal.specs.declared.layout.Fields.{Fields}
use Rattle.sequence_journal.specs.declared.window.Window.{Window}
use Rattle.sequence_journal.specs.Windows.{Shows, seen}
use Rattle.sequence_journal.specs.declared.whole_file.ReadHistory.{ReadHistory}
use Rattle.sequence_journal.specs.Layout.{BaseIsOpen, RecordIsOpen}
use Rattle.sequence_journal.specs.Standing.{EventsFit, BeginsWith, DamagedAt, SpellsNothing, record_of, history_bytes}
use Rattle.sequence_journal.specs.Basing.{base_alone}
use Rattle.sequence_journal.specs.Reading.{FindsBase, IsFound, ReadsRecord, IsReadSoFar}
use Rattle.sequence_journal.specs.Reading.{IsRefused, IsReadError}
use Rattle.sequence_journal.specs.Reading.{IsBaseRead, ReadsBase, IsNextRead, ReadsNext, IsRead, Judges}
use Rattle.sequence_journal.proofs.FoundParts.{base_open, base_there}
use Rattle.sequence_journal.proofs.HistoryFronts.{begins_base, begins_push, gate_push}

-- a fault of the site and want of memory say nothing of the file
pub refused_free : (file : Which) (reads : List ℕ) (e : JournalError) → (e ≡ SiteFault) ⊎ (e ≡ NoMemory)
    → IsRefused file reads e
refused_free file reads e (inl fault) = subst (IsRefused file reads) (sym fault) tt
refused_free file reads e (inr memory) = subst (IsRefused file reads) (sym memory) tt

pub read_error : (file : Which) (e : JournalError) → (e ≡ SiteFault) ⊎ (e ≡ NoMemory) → IsReadError file e
read_error file e (inl fault) = subst (IsReadError file) (sym fault) tt
read_error file e (inr memory) = subst (IsReadError file) (sym memory) tt

-- ---- the base

module _ (file : Which) (f : FoundBase) where
  pub base_profile : (w : Outside) → is_profile_number f.head.profile ≡ false
      → ReadsBase file f (Err (Damaged file 0)) w w
  base_profile w unknown = record {
    quiet = quiet_start w;
    answer = λ is small. (
      refl,
      inl (record {
        base = record {
          profile = f.head.profile;
          generation = f.head.generation;
          number = f.head.number;
          bytes = _;
        };
        rest = drop (37 + f.head.size) (disk w file).reads;
        is_open = base_there (disk w file).reads f is;
        fault = inl (λ known. absurd (true≢false (sym known ∙ unknown)));
        place = refl;
      }),
      small,
    );
  }

  pub base_unread : (window : Window) (e : JournalError) (w v : Outside)
      → Shows file window 37 f.head.size (Err e) w v
      → ReadsBase file f (Err e) w v
  base_unread window e w v shows = record {
    quiet = shows.quiet;
    answer = λ is small. refused_free file (disk w file).reads e shows.answer;
  }

  module _ (window : Window) (part : List ℕ) (x : Unit {0}) (w v : Outside) (same : part ≡ seen window 37 f.head.size)
      (shows : Shows file window 37 f.head.size (Ok x) w v) where
    there : part ≡ take f.head.size (drop 37 (disk w file).reads)
    there = same ∙ shows.answer

    pub base_cut_short : length part < f.head.size → ReadsBase file f (Err NoStore) w v
    base_cut_short few = record {
      quiet = shows.quiet;
      answer = λ is small. absurd (omega (
        arith,
        few,
        is.whole,
        ap (λ (l : List ℕ). length l) there,
        length-take f.head.size (drop 37 (disk w file).reads),
        length-drop 37 (disk w file).reads,
      ));
    }

    pub base_no_memory : ReadsBase file f (Err NoMemory) w v
    base_no_memory = record { quiet = shows.quiet; answer = λ is small. tt }

    module _ (all : f.head.size ≤ length part) where
      so_many : length part ≡ f.head.size
      so_many = omega (
        arith,
        all,
        ap (λ (l : List ℕ). length l) there,
        length-take f.head.size (drop 37 (disk w file).reads),
      )

      opened : IsFound (disk w file).reads f → BaseIsOpen (disk w file).reads (record {
        profile = f.head.profile;
        generation = f.head.generation;
        number = f.head.number;
        bytes = part;
      }) (drop (37 + f.head.size) (disk w file).reads)
      opened is = base_open (disk w file).reads part f is there so_many

      pub base_spells_nothing : SpellsNothing part → ReadsBase file f (Err (Damaged file 0)) w v
      base_spells_nothing none = record {
        quiet = shows.quiet;
        answer = λ is small. (
          refl,
          inl (record {
            base = _;
            rest = _;
            is_open = opened is;
            fault = inr none;
            place = refl;
          }),
          small,
        );
      }

      pub base_read : (events : Vec Event Global) → IsProfile f.head.profile → AreEvents events.items
          → events_bytes events.items ≡ part → ReadsBase file f (Ok (record {
            len = f.len;
            generation = f.head.generation;
            profile = f.head.profile;
            kept = f.head.number;
            gate = 37 + f.head.size;
            events = events;
          })) w v
      base_read events known are spells = record {
        quiet = shows.quiet;
        answer = λ is small. record {
          history = base_alone f.head.profile f.head.number events.items;
          begins = begins_base (disk w file).reads f.head.profile f.head.generation f.head.number part
              (drop (37 + f.head.size) (disk w file).reads) events.items (opened is) known are spells;
          events = sym (append-nil events.items);
          last = omega arith;
          profile = refl;
          gate = omega (
            arith,
            so_many,
            ap (λ (l : List ℕ). length l) spells,
            ap (λ (l : List ℕ). length l) (append-nil (events_bytes events.items)),
          );
          len = is.len;
        };
      }

-- ---- one record more

module _ (file : Which) (window : Window) (old : ReadHistory) where
  pub next_unread : (e : JournalError) (w v : Outside) → ReadsRecord file old.len old.gate window (Err e) w v
      → ReadsNext file old old (Err e) w v
  next_unread e w v read = record {
    quiet = read.quiet;
    answer = λ is small. refused_free file (disk w file).reads e (read.answer is.len);
  }

  pub next_closed : (w v : Outside) → ReadsRecord file old.len old.gate window (Ok None) w v
      → ReadsNext file old old (Ok false) w v
  next_closed w v read = record { quiet = read.quiet; answer = λ is small. (refl, read.answer is.len) }

  module _ (r : Fields) (w v : Outside) (read : ReadsRecord file old.len old.gate window (Ok (Some r)) w v) where
    reads : List ℕ
    reads = (disk w file).reads

    damaged : (is : IsReadSoFar (disk w file).reads old) → (r.number ≢ old.kept + 1) ⊎ SpellsNothing
        (seen window (old.gate + 17) r.size)
        → DamagedAt (disk w file).reads old.gate
    damaged is fault = inr (record {
      generation = old.generation;
      before = is.history;
      next = record { number = r.number; bytes = (seen window (old.gate + 17) r.size) };
      rest = drop old.gate (disk w file).reads;
      after = drop (old.gate + (17 + r.size)) (disk w file).reads;
      begins = is.begins;
      is_open = (read.answer is.len).0;
      fault = subst (λ (n : ℕ). (r.number ≢ n + 1) ⊎ SpellsNothing (seen window (old.gate + 17) r.size)) is.last
          fault;
      place = is.gate;
    })

    pub next_damaged : (r.number ≢ old.kept + 1) ⊎ SpellsNothing (seen window (old.gate + 17) r.size)
        → ReadsNext file old old (Err (Damaged file old.gate)) w v
    next_damaged fault = record { quiet = read.quiet; answer = λ is small. (refl, damaged is fault, small) }

    pub next_read : (new : ReadHistory) (more : List Event) → r.number ≡ old.kept + 1 → AreEvents more
        → events_bytes more ≡ (seen window (old.gate + 17) r.size) → new.len ≡ old.len
        → new.generation ≡ old.generation → new.profile ≡ old.profile
        → new.kept ≡ r.number
        → new.gate ≡ old.gate + (17 + r.size) → new.events.items ≡ old.events.items ++ more
        → ReadsNext file old new (Ok true) w v
    next_read new more next are spells len generation profile last gate events = record {
      quiet = read.quiet;
      answer = λ is small. (
          let h : History = is.history in
          let there : List ℕ = (disk w file).reads in
          let fit : EventsFit more = record {
            are = are;
            size = subst (λ (l : List ℕ). length l < 2 ^ 64)
                (sym spells) (read.answer is.len).0.fits.size;
          } in
          let o : RecordIsOpen (drop old.gate there) (record_of r.number more) (drop new.gate there) =
          subst (λ (x : ℕ). RecordIsOpen (drop old.gate there) (record_of r.number more) (drop x there)) (sym gate)
          (subst (λ (l : List ℕ). RecordIsOpen (drop old.gate there) (record { number = r.number; bytes = l })
          (drop (old.gate + (17 + r.size)) there)) (sym spells) (read.answer is.len).0) in
          let number : r.number ≡ kept h + 1 = next ∙ ap (λ (x : ℕ). x + 1) is.last in
          let longer : length (h.changes ++ more ∷ []) ≡ length h.changes + 1 = length-append h.changes (more ∷ []) in
          record {
            history = with_change h more;
            begins = subst (λ (g : ℕ). BeginsWith there g (with_change h more) (drop new.gate there)) (sym generation)
                (begins_push there old.generation h (drop old.gate there) (drop new.gate there) r.number more
                is.begins o fit number);
            events = events ∙ ap (λ (l : List Event). l ++ more) is.events
                ∙ flat_map_more (λ change. change) h.base_events h.changes more;
            last = omega (arith, last, number, longer);
            profile = profile ∙ is.profile;
            gate = omega (
              arith,
              gate,
              is.gate,
              (read.answer is.len).1,
              ap (λ (l : List ℕ). length l) spells,
              gate_push old.generation h more,
              ap (λ (g : ℕ). length (history_bytes g (with_change h more))) generation,
            );
            len = len ∙ is.len;
          });
    }

-- ---- the whole file

-- so far from one outside to another
pub record Reading (file : Which) (r : ReadHistory) (w u : Outside) : Type 0 where
  pub quiet : Quiet w u
  pub so_far : IsReadSoFar (disk w file).reads r
  pub small : length (disk w file).reads ≤ 2 ^ 40

module _ (file : Which) where
  module _ (f : FoundBase) (w u : Outside) (finds : FindsBase file (Ok (Some f)) w u) where
    same : (disk u file).reads ≡ (disk w file).reads
    same = ap (λ (d : Disk). d.reads) (quiet_disk file w u finds.quiet)

    pub judge_too_large : 2 ^ 40 < f.len → Judges file (Err TooLarge) w u
    judge_too_large large = record {
      quiet = finds.quiet;
      answer = ((_, _, base_there (disk w file).reads f finds.answer), omega (arith, large, finds.answer.len));
    }

    read_base : (result : Result ReadHistory JournalError) (v : Outside) → f.len ≤ 2 ^ 40
        → ReadsBase file f result u v
        → IsBaseRead file (disk w file).reads result
    read_base result v fits read = subst (λ (l : List ℕ). IsBaseRead file l result) same
        (read.answer (subst (λ (l : List ℕ). IsFound l f) (sym same) finds.answer)
        (omega (arith, fits, finds.answer.len, ap (λ (l : List ℕ). length l) same)))

    pub judge_base_refused : (e : JournalError) (v : Outside) → f.len ≤ 2 ^ 40 → ReadsBase file f (Err e) u v
        → Judges file (Err e) w v
    judge_base_refused e v fits read = record {
      quiet = quiet_then w u v finds.quiet read.quiet;
      answer = read_base
          (Err e) v fits read;
    }

    pub judge_start : (r : ReadHistory) (v : Outside) → f.len ≤ 2 ^ 40 → ReadsBase file f (Ok r) u v
        → Reading file r w v
    judge_start r v fits read = record {
      quiet = quiet_then w u v finds.quiet read.quiet;
      so_far = read_base (Ok r) v fits read;
      small = omega (arith, fits, finds.answer.len);
    }

  module _ (old new : ReadHistory) (w u v : Outside) (reading : Reading file old w u) where
    same_file : (disk u file).reads ≡ (disk w file).reads
    same_file = ap (λ (d : Disk). d.reads) (quiet_disk file w u reading.quiet)

    read_next : (result : Result Bool JournalError) → ReadsNext file old new result u v
        → IsNextRead file (disk w file).reads old new result
    read_next result next = subst (λ (l : List ℕ). IsNextRead file l old new result) same_file
        (next.answer (subst (λ (l : List ℕ). IsReadSoFar l old) (sym same_file) reading.so_far)
        (subst (λ (l : List ℕ). length l ≤ 2 ^ 40) (sym same_file) reading.small))

    pub judge_next : ReadsNext file old new (Ok true) u v → Reading file new w v
    judge_next next = record {
      quiet = quiet_then w u v reading.quiet next.quiet;
      so_far = read_next (Ok true) next;
      small = reading.small;
    }

    pub judge_next_refused : (e : JournalError) → ReadsNext file old new (Err e) u v → Judges file (Err e) w v
    judge_next_refused e next = record {
      quiet = quiet_then w u v reading.quiet next.quiet;
      answer = read_next
          (Err e) next;
    }

    pub judge_end : ReadsNext file old new (Ok false) u v → Judges file (Ok new) w v
    judge_end next =
        let last = read_next (Ok false) next in
        record {
          quiet = quiet_then w u v reading.quiet next.quiet;
          answer = subst (λ (r : ReadHistory). IsRead (disk w file).reads r) (sym last.0)
              (record { so_far = reading.so_far; closed = last.1; small = reading.small });
        }
