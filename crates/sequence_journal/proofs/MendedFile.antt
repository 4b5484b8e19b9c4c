-- A file read, and its end repaired.
use Rattle.std.proofs.Common.{◌≡◌, inl, inr, ⊎_elim, ℕ, ◌+◌, ◌≤◌, ◌^◌, List, [], ◌∷◌, ◌++◌, ◌⊎◌, true, false}
use Rattle.std.proofs.Common.{length, get_or}
use Rattle.std.proofs.Common.{take, drop, Bool, Result, Ok, Err, refl, sym, ◌∙◌, ap, subst, arith, append_assoc}
use Rattle.std.proofs.Common.{length-append}
use Rattle.std.proofs.Common.{take-append-drop}
use Rattle.std.proofs.lemmas.List.{length-drop}
use Rattle.road_base.specs.History.{History}
use Rattle.road_io.specs.declared.outside.Failed.{Failed}
use Rattle.road_io.specs.declared.outside.Which.{Which}
use Rattle.road_io.specs.Disk.{Disk, IsImage, IsDurable}
use Rattle.road_io.specs.Outside.{Outside, IsLeft, IsSound, Quiet, LeavesOnly, LeavesFile, disk, other, present}
use Rattle.road_io.specs.Outside.{image_of}
use Rattle.road_io.proofs.PendingImages.{settled_durable, only_image}
use Rattle.road_io.proofs.CallRuns.{then_runs, only_weaker}
use Rattle.road_io.proofs.QuietRuns.{quiet_then, quiet_disk}
use Rattle.sequence_journal.specs.declared.error.JournalError.{JournalError}
use Rattle.sequence_journal.specs.declared.error.JournalError.TheVariants.{SiteFault}
use Rattle.sequence_journal.specs.declared.whole_file.ReadHistory.{ReadHistory}
use Rattle.sequence_journal.specs.declared.load.Loaded.{Loaded}
use Rattle.sequence_journal.specs.Layout.{Numbered, IsClosed, record_bytes, fields}
use Rattle.sequence_journal.specs.Standing.{BeginsWith, Stands, history_bytes}
use Rattle.sequence_journal.specs.Ends.{IsRepaired, Repaired, Repairs}
use Rattle.sequence_journal.specs.Reading.{IsRead, Judges, IsRefused, IsEndTest, TestsEnd}
use Rattle.sequence_journal.specs.Loading.{IsEnded, IsLoaded, LoadAnswer, StandAlike, IsAlike, Mends, Loads, Settles}
use Rattle.sequence_journal.proofs.HistoryFronts.{rest_at, gate_within}
use Rattle.sequence_journal.proofs.SettledFile.{calm_quiet, calm_then, leaves_now}
use Rattle.sequence_journal.proofs.SoundEnds.{reads_so}

-- ---- what is closed

length_fields : (r : Numbered) → length (fields r) ≡ 16 + length r.bytes
length_fields r = omega arith

pub closed_front : (rest : List ℕ) (n : ℕ) → IsClosed rest → IsClosed (take n rest)
closed_front rest n shut r after o = shut r (after ++ drop n rest) (record {
  fits = o.fits;
  split = sym (take-append-drop n rest) ∙ ap (λ (l : List ℕ). l ++ drop n rest) o.split
      ∙ append_assoc (record_bytes r) after (drop n rest);
})

pub closed_one : (x : ℕ) → IsClosed (x ∷ [])
closed_one x r after o = absurd (omega (
  arith,
  ap (λ (l : List ℕ). length l) o.split,
  length-append (record_bytes r) after,
  length_fields r,
))

pub repaired_stands : (g : ℕ) (h : History) (reads rest : List ℕ) → BeginsWith reads g h rest → IsClosed rest
    → (c : List ℕ) → IsRepaired (history_bytes g h) rest c → Stands c g h
repaired_stands g h reads rest b shut c (inl front) = record {
  rest = take front.0 rest;
  begins = record { split = front.1; fits = b.fits };
  closed = closed_front rest front.0 shut;
}
repaired_stands g h reads rest b shut c (inr one) = record {
  rest = one.0 ∷ [];
  begins = record { split = one.1; fits = b.fits };
  closed = closed_one one.0;
}

nothing_closed : IsClosed []
nothing_closed = closed_front (0 ∷ []) 0 (closed_one 0)

-- behind a history stands the next gate, closed, or nothing
pub end_closed : (end : List ℕ) (P : Type 0) → (end ≡ 0 ∷ []) ⊎ ((end ≡ []) × P) → IsClosed end
end_closed end P ends = ⊎_elim (λ one. subst IsClosed (sym one) (closed_one 0))
    (λ none. subst IsClosed (sym none.0) nothing_closed) ends

ended_stands : (file : List ℕ) → (e : IsEnded file) → Stands file e.generation e.history
ended_stands file e =
    record { rest = e.end; begins = e.begins; closed = end_closed e.end (length file ≡ 2 ^ 40) e.ends }

abbrev pub StandsOnce : Type 0
StandsOnce = (file : List ℕ) (g k : ℕ) (h i : History) → Stands file g h → Stands file k i → (g ≡ k) × (h ≡ i)

-- ---- a file on which nothing is pending

pub durable_image : (d : Disk) → IsDurable d → IsImage d d.reads
durable_image d durable = record {
  no_shorter = omega (arith, durable.least);
  no_longer = omega (arith, durable.greatest);
  same = λ k lt low torn. ap (λ (l : List ℕ). get_or l k 0) (sym durable.synced);
}

quiet_leaves : (file : Which) (w u : Outside) → Quiet w u → IsDurable (disk w file)
    → LeavesOnly w u (LeavesFile file (IsAlike (disk w file).reads) w)
quiet_leaves file w u q durable =
    only_weaker w u (IsLeft (present w)) (LeavesFile file (IsAlike (disk w file).reads) w) q.only
    (leaves_now file (IsAlike (disk w file).reads) w (λ c i. inl (only_image (disk w file) durable c i)))

-- no answer by what the file says
quiet_refused : (file : Which) (e : JournalError) (w u : Outside) → Quiet w u → IsRefused file (disk w file).reads e
    → Mends file (Err e) w u
quiet_refused file e w u q refused durable = record {
  any_moment = quiet_leaves file w u q durable;
  alike = inl (ap (λ (d : Disk). d.reads) (quiet_disk file w u q));
  calm = λ ended. calm_quiet w u q;
  answer = (refused, inr (ap (λ (d : Disk). d.reads) (quiet_disk file w u q)));
  others = quiet_disk (other file) w u q;
  output = q.output;
}

pub mend_refused : (file : Which) (e : JournalError) (w u : Outside) → Judges file (Err e) w u
    → Mends file (Err e) w u
mend_refused file e w u j = quiet_refused file e w u j.quiet j.answer

pub mend_untested : (file : Which) (r : ReadHistory) (e : JournalError) (x : Failed) (w u v : Outside) → e ≡ SiteFault
    → Judges file (Ok r) w u → TestsEnd file r.len r.gate (Err x) u v → Mends file (Err e) w v
mend_untested file r e x w u v is j t = quiet_refused file e w v (quiet_then w u v j.quiet t.quiet)
    (subst (IsRefused file (disk w file).reads) (sym is) tt)

-- what the journal stands for
abbrev pub on_file : Which → ReadHistory → Loaded
on_file file r = record {
  journal = record {
    file = file;
    generation = r.generation;
    profile = r.profile;
    gate = r.gate;
    kept = record { 0 = r.kept };
    closed =
        false;
  };
  events = r.events;
}

-- the file was read, and its end looked at
pub record Looked (file : Which) (r : ReadHistory) (whole : Bool) (w u : Outside) : Type 0 where
  pub quiet : Quiet w u
  pub read : IsRead (disk w file).reads r
  pub end : whole ≡ true → drop r.gate (disk w file).reads ≡ 0 ∷ []
  pub no_end : whole ≡ false → drop r.gate (disk w file).reads ≡ 0 ∷ [] → ⊥

pub look : (file : Which) (r : ReadHistory) (whole : Bool) (w u v : Outside) → Judges file (Ok r) w u
    → TestsEnd file r.len r.gate (Ok whole) u v → Looked file r whole w v
look file r whole w u v j t =
    let same : (disk u file).reads ≡ (disk w file).reads = ap (λ (d : Disk). d.reads) (quiet_disk file w u j.quiet) in
    let tested = t.answer (j.answer.so_far.len ∙ ap (λ (l : List ℕ). length l) (sym same)) in
    record {
      quiet = quiet_then w u v j.quiet t.quiet;
      read = j.answer;
      end = λ holds. ap (λ (l : List ℕ). drop r.gate l) (sym same) ∙ at_end whole holds tested;
      no_end = λ fails one. not_at_end whole fails tested (ap (λ (l : List ℕ). drop r.gate l) same ∙ one);
    }
  where
    not_at_end : (b : Bool) → b ≡ false → IsEndTest r.gate (disk u file).reads (Ok b)
        → drop r.gate (disk u file).reads ≡ 0 ∷ [] → ⊥
    not_at_end true fails is = cc
    not_at_end false fails is = is

    at_end : (b : Bool) → b ≡ true → IsEndTest r.gate (disk u file).reads (Ok b)
        → drop r.gate (disk u file).reads ≡ 0 ∷ []
    at_end true holds is = is
    at_end false holds is = cc

module _ (file : Which) (r : ReadHistory) (whole : Bool) (w u : Outside) (k : Looked file r whole w u) where
  same : disk u file ≡ disk w file
  same = quiet_disk file w u k.quiet

  stood : Stands (disk w file).reads r.generation k.read.so_far.history
  stood = record {
    rest = drop r.gate (disk w file).reads;
    begins = k.read.so_far.begins;
    closed = k.read.closed;
  }

  loaded_at : (v : Outside) (end : List ℕ) → (disk v file).reads ≡ history_bytes r.generation k.read.so_far.history
      ++ end
      → (end ≡ 0 ∷ []) ⊎ ((end ≡ []) × (r.gate ≡ 2 ^ 40)) → IsDurable (disk v file)
      → length (disk v file).reads ≤ 2 ^ 40 → IsLoaded file (disk w file).reads (on_file file r) v
  loaded_at v end reads ends durable still = record {
    history = k.read.so_far.history;
    stood = stood;
    events = k.read.so_far.events;
    at = record {
      end = end;
      reads = reads;
      ends = ends;
      gate = k.read.so_far.gate;
      last = k.read.so_far.last;
      profile = k.read.so_far.profile;
      fits = k.read.so_far.begins.fits;
      durable = durable;
    };
    on = refl;
    not_closed = refl;
    small = k.read.small;
    still_small = still;
  }

  unrepaired : (end : List ℕ) → drop r.gate (disk w file).reads ≡ end
      → (end ≡ 0 ∷ []) ⊎ ((end ≡ []) × (r.gate ≡ 2 ^ 40))
      → Mends file (Ok (on_file file r)) w u
  unrepaired end e ends durable = record {
    any_moment = quiet_leaves file w u k.quiet durable;
    alike = inl (ap (λ (d : Disk). d.reads) same);
    calm = λ ended. calm_quiet w u k.quiet;
    answer = loaded_at u end
        (ap (λ (d : Disk). d.reads) same ∙ k.read.so_far.begins.split
        ∙ ap (λ (l : List ℕ). history_bytes r.generation k.read.so_far.history ++ l) e)
        ends (subst IsDurable (sym same) durable)
        (omega (arith, k.read.small, ap (λ (d : Disk). length d.reads) same));
    others = quiet_disk (other file) w u k.quiet;
    output = k.quiet.output;
  }

  pub mend_whole : whole ≡ true → Mends file (Ok (on_file file r)) w u
  mend_whole holds = unrepaired (0 ∷ []) (k.end holds) (inl refl)

  empty : (l : List ℕ) → length l ≡ 0 → l ≡ []
  empty [] e = refl
  empty (x ∷ l) e = absurd (omega (arith, e))

  pub mend_limit : r.gate ≡ 2 ^ 40 → Mends file (Ok (on_file file r)) w u
  mend_limit limit = unrepaired [] (empty (drop r.gate (disk w file).reads)
      (omega (arith, limit, k.read.small, length-drop r.gate (disk w file).reads))) (inr (refl, limit))

  repaired_alike : (c : List ℕ)
      → IsRepaired (history_bytes r.generation k.read.so_far.history) (drop r.gate (disk w file).reads) c
      → IsAlike (disk w file).reads c
  repaired_alike c is = inr (
    r.generation,
    k.read.so_far.history,
    stood,
    repaired_stands r.generation k.read.so_far.history (disk w file).reads (drop r.gate (disk w file).reads)
        k.read.so_far.begins k.read.closed c is,
    k.read.small,
  )

  repaired_moments : (result : Result (Unit {0}) Failed) (v : Outside) → IsDurable (disk w file)
      → Repaired file (history_bytes r.generation k.read.so_far.history) (drop r.gate (disk w file).reads) result u v
      → LeavesOnly w v (LeavesFile file (IsAlike (disk w file).reads) w)
  repaired_moments result v durable p = then_runs w u v (LeavesFile file (IsAlike (disk w file).reads) w)
      (LeavesFile file (IsRepaired (history_bytes r.generation k.read.so_far.history)
      (drop r.gate (disk w file).reads)) u)
      (quiet_leaves file w u k.quiet durable) p.any_moment
      (λ left l. record {
        image = repaired_alike (image_of left file) l.image;
        other = subst (λ (d : Disk). IsImage d (image_of left (other file))) (quiet_disk (other file) w u k.quiet)
            l.other;
        out = l.out ∙ k.quiet.output;
      })

  repaired : (result : Result (Unit {0}) Failed) (v : Outside) → IsDurable (disk w file)
      → Repairs file r.gate result u v
      → Repaired file (history_bytes r.generation k.read.so_far.history) (drop r.gate (disk w file).reads) result u v
  repaired result v durable repairs =
      repairs (history_bytes r.generation k.read.so_far.history) (drop r.gate (disk w file).reads)
      (sym k.read.so_far.gate) (ap (λ (d : Disk). d.reads) same ∙ k.read.so_far.begins.split)
      (subst IsDurable (sym same) durable)

  -- where the end is repaired, it wasn't right
  to_repair : StandsOnce → whole ≡ false → (r.gate ≡ 2 ^ 40 → ⊥) → IsEnded (disk w file).reads → ⊥
  to_repair one no_gate below e =
      let reads : List ℕ = (disk w file).reads in
      let h : History = k.read.so_far.history in
      let same = one reads r.generation e.generation h e.history stood (ended_stands reads e) in
      let long : length (history_bytes r.generation h) ≡ length (history_bytes e.generation e.history) =
      ap (λ (g : ℕ). length (history_bytes g h)) same.0
      ∙ ap (λ (i : History). length (history_bytes e.generation i)) same.1 in
      ⊎_elim
      (λ gate. k.no_end no_gate
      (rest_at reads e.generation e.history e.end r.gate e.begins (k.read.so_far.gate ∙ long) ∙ gate))
      (λ none. below (omega (
        arith,
        none.1,
        k.read.so_far.gate,
        long,
        ap (λ (l : List ℕ). length l) e.begins.split,
        length-append (history_bytes e.generation e.history) e.end,
        ap (λ (l : List ℕ). length l) none.0,
      )))
      e.ends

  pub mend_done : StandsOnce → whole ≡ false → (x : Unit {0}) (v : Outside) → (r.gate ≡ 2 ^ 40 → ⊥)
      → Repairs file r.gate (Ok x) u v → Mends file (Ok (on_file file r)) w v
  mend_done one no_gate x v below repairs durable =
      let p = repaired (Ok x) v durable repairs in
      record {
        any_moment = repaired_moments (Ok x) v durable p;
        alike = repaired_alike (disk v file).reads (inr (0, ap (λ (d : Disk). d.reads) p.done));
        calm = λ ended. absurd (to_repair one no_gate below ended);
        answer = loaded_at v (0 ∷ []) (ap (λ (d : Disk). d.reads) p.done) (inl refl)
            (subst IsDurable (sym p.done)
            (settled_durable (history_bytes r.generation k.read.so_far.history ++ 0 ∷ [])))
            (omega (
              arith,
              below,
              ap (λ (d : Disk). length d.reads) p.done,
              k.read.so_far.gate,
              k.read.small,
              length-append (history_bytes r.generation k.read.so_far.history) (0 ∷ []),
              gate_within (disk w file).reads r.generation k.read.so_far.history (drop r.gate (disk w file).reads)
                  k.read.so_far.begins,
            ));
        others = p.others ∙ quiet_disk (other file) w u k.quiet;
        output = p.output ∙ k.quiet.output;
      }

  pub mend_failed : StandsOnce → whole ≡ false → (r.gate ≡ 2 ^ 40 → ⊥) → (e : JournalError) (x : Failed) (v : Outside)
      → e ≡ SiteFault → IsSound v → Repairs file r.gate (Err x) u v → Mends file (Err e) w v
  mend_failed one no_gate below e x v is sound repairs durable =
      let p = repaired (Err x) v durable repairs in
      record {
        any_moment = repaired_moments (Err x) v durable p;
        alike = reads_so file (IsAlike (disk w file).reads) w v sound (repaired_moments (Err x) v durable p);
        calm = λ ended. absurd (to_repair one no_gate below ended);
        answer = (subst (IsRefused file (disk w file).reads) (sym is) tt, inl is);
        others = p.others ∙ quiet_disk (other file) w u k.quiet;
        output = p.output ∙ k.quiet.output;
      }

-- ---- a sync, and then that

abbrev IsOldOrAlike : Which → Outside → List ℕ → Type 0
IsOldOrAlike file w image = IsImage (disk w file) image ⊎ StandAlike (disk w file).reads image

calm_leaves : (file : Which) (result : Result (Unit {0}) Failed) (w u : Outside) → Settles file result w u
    → LeavesOnly w u (LeavesFile file (IsOldOrAlike file w) w)
calm_leaves file result w u s = only_weaker w u (IsLeft (present w)) (LeavesFile file (IsOldOrAlike file w) w)
    s.calm.only
    (leaves_now file (IsOldOrAlike file w) w (λ c i. inl i))

pub load_unsettled : (file : Which) (e : JournalError) (x : Failed) (w u : Outside) → e ≡ SiteFault
    → Settles file (Err x) w u → Loads file (Err e) w u
load_unsettled file e x w u is s = record {
  any_moment = calm_leaves file (Err x) w u s;
  alike = inl (s.calm.reads file);
  calm = λ ended. s.calm;
  answer = (subst (IsRefused file (disk w file).reads) (sym is) tt, inl is);
  others = s.others;
  output = s.calm.output;
}

loads_answer : (file : Which) (result : Result Loaded JournalError) (w u v : Outside)
    → (disk u file).reads ≡ (disk w file).reads → LoadAnswer file result u v → LoadAnswer file result w v
loads_answer file (Ok l) w u v same answer = subst (λ (reads : List ℕ). IsLoaded file reads l v) same answer
loads_answer file (Err e) w u v same answer = (
  subst (λ (reads : List ℕ). IsRefused file reads e) same answer.0,
  ⊎_elim (λ fault. inl fault) (λ kept. inr (kept ∙ same)) answer.1,
)

pub load_done : (file : Which) (result : Result Loaded JournalError) (x : Unit {0}) (w u v : Outside)
    → Settles file (Ok x) w u → Mends file result u v → Loads file result w v
load_done file result x w u v s mends =
    let m = mends s.done in
    record {
      any_moment = then_runs w u v (LeavesFile file (IsOldOrAlike file w) w)
          (LeavesFile file (IsAlike (disk u file).reads) u) (calm_leaves file (Ok x) w u s) m.any_moment
          (λ left l. record {
            image = ⊎_elim
                (λ same. inl (s.calm.images file (image_of left file)
                (subst (λ (x : List ℕ). IsImage (disk u file) x) (sym same) (durable_image (disk u file) s.done))))
                (λ alike. inr (subst (λ (reads : List ℕ). StandAlike reads (image_of left file)) (s.calm.reads file)
                alike))
                l.image;
            other = s.calm.images (other file) (image_of left (other file)) l.other;
            out = l.out ∙ s.calm.output;
          });
      alike = ⊎_elim (λ same. inl (same ∙ s.calm.reads file))
          (λ alike. inr (subst (λ (reads : List ℕ). StandAlike reads (disk v file).reads) (s.calm.reads file) alike))
          m.alike;
      calm = λ ended. calm_then w u v s.calm (m.calm (subst IsEnded (sym (s.calm.reads file)) ended));
      answer = loads_answer file result w u v (s.calm.reads file) m.answer;
      others = m.others ∙ s.others;
      output = m.output ∙ s.calm.output;
    }
