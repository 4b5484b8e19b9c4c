-- What a stop leaves while a change is added.
use Rattle.std.proofs.Common.{◌≡◌, ◌≢◌, inl, inr, ⊎_elim, ℕ, ◌+◌, ◌<◌, ◌^◌, List, [], ◌∷◌, ◌++◌, ◌⊎◌, length}
use Rattle.std.proofs.Common.{false, Result, Ok, Err, refl, sym, ◌∙◌, ap, subst, arith, length-append}
use Rattle.std.proofs.lemmas.Bool.{cases_eq}
use Rattle.road_base.specs.declared.event.Event.{Event}
use Rattle.road_base.specs.declared.ids.Sequence.{Sequence}
use Rattle.road_base.specs.History.{History, with_change}
use Rattle.road_io.specs.declared.outside.Failed.{Failed}
use Rattle.road_io.specs.declared.outside.Which.{Which}
use Rattle.road_io.specs.Disk.{Disk, IsDurable, settled}
use Rattle.road_io.specs.Outside.{Outside, LeavesOnly, LeavesFile, disk, image_of}
use Rattle.road_io.proofs.PendingImages.{settled_durable}
use Rattle.road_io.proofs.CallRuns.{only_weaker}
use Rattle.sequence_journal.specs.declared.error.JournalError.TheVariants.{SiteFault}
use Rattle.sequence_journal.specs.declared.append.SpelledChange.{SpelledChange}
use Rattle.sequence_journal.specs.declared.journal.Journal.{Journal}
use Rattle.sequence_journal.specs.Layout.{IsClosed, fields}
use Rattle.sequence_journal.specs.Standing.{EventsFit, HistoryFits, BeginsWith, Stands, record_of, history_bytes}
use Rattle.sequence_journal.specs.Ends.{IsGated, Opened, Opens}
use Rattle.sequence_journal.specs.Journal.{IsAt}
use Rattle.sequence_journal.specs.Adding.{Added, Adds, IsSpelledChange, MayAddSpelled}
use Rattle.sequence_journal.proofs.HistoryFronts.{begins_push, gate_push}

pub closed_gate : (gate : ℕ) (tail : List ℕ) → gate ≢ 1 → IsClosed (gate ∷ tail)
closed_gate gate tail shut r after o = let e = o.split in shut (cc)

-- the chunk spells the change under the next number, and there is room behind the gate
pub record IsNextChunk (old : Journal) (seq : Sequence) (change : List Event) (chunk : List ℕ) : Type 0 where
  pub fit : EventsFit change
  pub next : seq.0 ≡ old.kept.0 + 1
  pub small : seq.0 < 2 ^ 64
  pub chunk_is : chunk ≡ fields (record_of seq.0 change) ++ 0 ∷ []
  pub room : old.gate < 2 ^ 40

-- a spelled change that may be added is one, whichever events it spells
pub is_next_chunk : (old : Journal) (spelled : SpelledChange) (change : List Event) → MayAddSpelled old spelled
    → IsSpelledChange spelled change → IsNextChunk old spelled.number change spelled.chunk.items
is_next_chunk old spelled change may is = record {
  fit = is.fit;
  next = may.2.next;
  small = is.number_fits;
  chunk_is = is.bytes;
  room = let r = may.2.room in omega (arith, r);
}

shape : (old : Journal) (h : History) (w : Outside) → old.gate < 2 ^ 40 → IsAt old h w
    → (disk w old.file).reads ≡ history_bytes old.generation h ++ 0 ∷ []
shape old h w room at = ⊎_elim
    (λ one. at.reads ∙ ap (λ (l : List ℕ). history_bytes old.generation h ++ l) one)
    (λ none. absurd (omega (arith, none.1, room))) at.ends

module _ (old : Journal) (seq : Sequence) (change : List Event) (chunk : List ℕ)
    (n : IsNextChunk old seq change chunk)
    (h : History) (w : Outside) (at : IsAt old h w) where
  begins : (file rest : List ℕ) → file ≡ history_bytes old.generation h ++ rest
      → BeginsWith file old.generation h rest
  begins file rest split = record { split = split; fits = at.fits }

  pushed : (file : List ℕ) → file ≡ history_bytes old.generation h ++ 1 ∷ chunk
      → BeginsWith file old.generation (with_change h change) (0 ∷ [])
  pushed file is = begins_push file old.generation h (1 ∷ chunk) (0 ∷ []) seq.0 change (begins file (1 ∷ chunk) is)
      (record {
        fits = record { number = n.small; size = n.fit.size };
        split = ap (λ (l : List ℕ). 1 ∷ l) n.chunk_is;
      })
      n.fit (n.next ∙ ap (λ (x : ℕ). x + 1) at.last)

  with_or_without : (c : List ℕ) → IsGated (history_bytes old.generation h) chunk c
      → Stands c old.generation h ⊎ Stands c old.generation (with_change h change)
  with_or_without c (inl shut) = inl (record {
    rest = 0 ∷ shut.0;
    begins = begins c (0 ∷ shut.0) shut.1;
    closed = closed_gate 0 shut.0 (omega arith);
  })
  with_or_without c (inr whole) = ⊎_elim
      (λ is_open. inr (record {
        rest = 0 ∷ [];
        begins = pushed c (whole.1 ∙ ap (λ (x : ℕ). history_bytes old.generation h ++ x ∷ chunk) is_open);
        closed = closed_gate 0 [] (omega arith);
      }))
      (λ shut. inl (record {
        rest = whole.0 ∷ chunk;
        begins = begins c (whole.0 ∷ chunk) whole.1;
        closed = closed_gate whole.0 chunk shut;
      }))
      (cases_eq whole.0 1)

  opened : (r : Result (Unit {0}) Failed) (v : Outside) → Opens old.file old.gate chunk r w v
      → Opened old.file (history_bytes old.generation h) chunk r w v
  opened r v opens = opens (history_bytes old.generation h) (sym at.gate) (shape old h w n.room at) at.durable

  moments : (r : Result (Unit {0}) Failed) (v : Outside) → Opened old.file (history_bytes old.generation h) chunk r w
      v
      → LeavesOnly w v (LeavesFile old.file
      (λ image. Stands image old.generation h ⊎ Stands image old.generation (with_change h change)) w)
  moments r v o = only_weaker w v (LeavesFile old.file (IsGated (history_bytes old.generation h) chunk) w)
      (LeavesFile old.file (λ image. Stands image old.generation h ⊎ Stands image old.generation
      (with_change h change)) w)
      o.any_moment
      (λ left l. record { image = with_or_without (image_of left old.file) l.image; other = l.other; out = l.out })

  added_failed : (new : Journal) (x : Failed) (v : Outside) → Opens old.file old.gate chunk (Err x) w v
      → Added old new h change (Err SiteFault) w v
  added_failed new x v opens =
      let o = opened (Err x) v opens in
      record { any_moment = moments (Err x) v o; ok = tt; others = o.others; output = o.output }

  added : (new : Journal) (x y : Unit {0}) (v : Outside) → new.file ≡ old.file → new.generation ≡ old.generation
      → new.profile ≡ old.profile → new.kept.0 ≡ seq.0 → new.gate ≡ old.gate + length chunk
      → Opens old.file old.gate chunk (Ok x) w v → Added old new h change (Ok y) w v
  added new x y v file generation profile last gate opens =
      let o = opened (Ok x) v opens in
      let front = history_bytes old.generation h in
      let d : disk v new.file ≡ settled (front ++ 1 ∷ chunk) = ap (λ (f : Which). disk v f) file ∙ o.done in
      let b : BeginsWith (front ++ 1 ∷ chunk) old.generation (with_change h change) (0 ∷ []) =
      pushed (front ++ 1 ∷ chunk) refl in
      let longer : length (h.changes ++ change ∷ []) ≡ length h.changes + 1 = length-append h.changes (change ∷ []) in
      record {
        any_moment = moments (Ok x) v o;
        ok = record {
          end = 0 ∷ [];
          reads = ap (λ (k : Disk). k.reads) d ∙ b.split
              ∙ ap (λ (k : ℕ). history_bytes k (with_change h change) ++ 0 ∷ []) (sym generation);
          ends = inl refl;
          gate = omega (
            arith,
            gate,
            at.gate,
            gate_push old.generation h change,
            ap (λ (l : List ℕ). length l) n.chunk_is,
            length-append (fields (record_of seq.0 change)) (0 ∷ []),
          )
              ∙ ap (λ (k : ℕ). length (history_bytes k (with_change h change))) (sym generation);
          last = omega (arith, last, n.next, at.last, longer);
          profile = profile ∙ at.profile;
          fits = subst (λ (k : ℕ). HistoryFits k (with_change h change)) (sym generation) b.fits;
          durable = subst IsDurable (sym d) (settled_durable (front ++ 1 ∷ chunk));
        };
        others = o.others;
        output = o.output;
      }

-- as the code's values have it
module _ (old new : Journal) (seq : Sequence) (change : List Event) (chunk given : List ℕ)
    (n : IsNextChunk old seq change chunk) (same : given ≡ chunk) (w v : Outside) where
  opens_of : (r : Result (Unit {0}) Failed) → Opens old.file old.gate given r w v
      → Opens old.file old.gate chunk r w v
  opens_of r o = subst (λ (l : List ℕ). Opens old.file old.gate l r w v) same o

  pub adding_failed : (x : Failed) → old.closed ≡ false → Opens old.file old.gate given (Err x) w v
      → Adds old new change (Err SiteFault) w v
  adding_failed x not_closed o =
      inr (not_closed, λ h at. added_failed old seq change chunk n h w at new x v (opens_of (Err x) o))

  pub adding_done : (x y : Unit {0}) → new.file ≡ old.file → new.generation ≡ old.generation → new.profile ≡ old.profile
      → new.kept.0 ≡ seq.0
      → new.gate ≡ old.gate + length chunk → Opens old.file old.gate given (Ok x) w v → Adds old new change (Ok y) w v
  adding_done x y file generation profile last gate o h at =
      added old seq change chunk n h w at new x y v file generation profile last gate (opens_of (Ok x) o)
