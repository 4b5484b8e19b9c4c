-- A journal that stands on a store, and a change added to it.
use Rattle.std.proofs.Common.{◌≡◌, ◌⊎◌, inl, inr, ⊎_elim, ℕ, ◌≤◌, ◌^◌, List, length}
use Rattle.std.proofs.Common.{Result, Ok, Err, sym, ◌∙◌, ap, subst, arith, length-append}
use Rattle.road_base.specs.declared.event.Event.{Event}
use Rattle.road_base.specs.declared.ids.Sequence.{Sequence}
use Rattle.road_base.specs.History.{History, with_change}
use Rattle.road_io.specs.declared.outside.Which.{Which}
use Rattle.road_io.specs.declared.outside.Which.TheVariants.{A}
use Rattle.road_io.specs.Disk.{Disk, IsDurable}
use Rattle.road_io.specs.Outside.{Outside, Left, IsLeft, LeavesOnly, LeavesFile, disk, other, present, image_of}
use Rattle.road_io.proofs.PendingImages.{only_image}
use Rattle.road_io.proofs.CallRuns.{started, only_weaker}
use Rattle.sequence_journal.specs.declared.error.JournalError.{JournalError}
use Rattle.sequence_journal.specs.declared.error.JournalError.TheVariants.{OutOfSequence, SiteFault, Damaged, NoStore}
use Rattle.sequence_journal.specs.declared.error.JournalError.TheVariants.{StoreExists, TooLarge, NoMemory}
use Rattle.sequence_journal.specs.declared.journal.Journal.{Journal}
use Rattle.sequence_journal.specs.Layout.{BaseIsOpen}
use Rattle.sequence_journal.specs.Standing.{Stands, history_bytes}
use Rattle.sequence_journal.specs.Journal.{IsAt}
use Rattle.sequence_journal.specs.Adding.{Adds, Added, AddAnswer}
use Rattle.sequence_journal.proofs.SettledFile.{leaves_now}
use Rattle.sequence_journal.proofs.MendedFile.{end_closed}
use Rattle.store_switch.specs.LiveFile.{IsOver, BothDurable, reads_of}
use Rattle.store_switch.specs.TwoFiles.{StandOn, IsOnStore, LeavesStore, LeavesEither}
use Rattle.store_switch.proofs.StoreLoads.{each_file}
use Rattle.store_switch.proofs.IntactStores.{same_store, left_there}

-- ---- a journal on a store

pub journal_stands : (j : Journal) (h : History) (w : Outside) → IsOnStore j h w
    → StandOn j.file j.generation (reads_of w) h
journal_stands j h w on = record {
  stands = record {
    rest = on.at.end;
    begins = record { split = on.at.reads; fits = on.at.fits };
    closed = end_closed on.at.end (j.gate ≡ 2 ^ 40) on.at.ends;
  };
  over = on.over;
}

pub journal_left : (j : Journal) (h : History) (w : Outside) (left : Left) → IsOnStore j h w → IsLeft (present w) left
    → LeavesStore h w.output left
journal_left j h w left on l = record {
  files = (
    j.file,
    j.generation,
    same_store (reads_of w) (image_of left) (λ f. left_there w left f on.durable l) j.file
        j.generation h (journal_stands j h w on),
  );
  out = (leaves_now A (λ c. Unit {0}) w (λ c i. tt) left l).out;
}

pub journal_stays : (j : Journal) (h : History) (w v : Outside) → IsOnStore j h w
    → ((file : Which) → reads_of v file ≡ reads_of w file) → BothDurable v → IsOnStore j h v
journal_stays j h w v on same durable = record {
  at = record {
    end = on.at.end;
    reads = same j.file ∙ on.at.reads;
    ends = on.at.ends;
    gate = on.at.gate;
    last = on.at.last;
    profile = on.at.profile;
    fits = on.at.fits;
    durable = durable j.file;
  };
  over = subst (λ (l : List ℕ). IsOver j.file j.generation l) (sym (same (other j.file))) on.over;
  durable = durable;
}

-- ---- a change added

module _ (old new : Journal) (h : History) (change : List Event) (w v : Outside) (on : IsOnStore old h w) where
  -- neither Ok nor a fault: nothing was done
  untouched : v ≡ w → LeavesOnly w v (LeavesEither h change w.output)
  untouched same = subst (λ (x : Outside). LeavesOnly w x (LeavesEither h change w.output)) (sym same)
      (started w (LeavesEither h change w.output) (λ left l. let k = journal_left old h w left on l in
      record { files = inl k.files; out = k.out }))

  over_still : (b : Disk) → b.reads ≡ reads_of w (other old.file) → IsOver old.file old.generation b.reads
  over_still d same b rest o = on.over b rest (subst (λ (l : List ℕ). BaseIsOpen l b rest) same o)

  added : (result : Result (Unit {0}) JournalError) → Added old new h change result w v
      → LeavesOnly w v (LeavesEither h change w.output)
  added result a = only_weaker w v (LeavesFile old.file (λ image. Stands image old.generation h
      ⊎ Stands image old.generation (with_change h change)) w) (LeavesEither h change w.output) a.any_moment
      (λ left l. record {
        files = ⊎_elim
            (λ s. inl (old.file, old.generation, record { stands = s; over = over_left left l }))
            (λ s. inr (old.file, old.generation, record { stands = s; over = over_left left l })) l.image;
        out = l.out;
      })
    where
      over_left : (left : Left) → LeavesFile old.file (λ image. Stands image old.generation h
          ⊎ Stands image old.generation (with_change h change)) w left
          → IsOver old.file old.generation (image_of left (other old.file))
      over_left left l b rest o = let f = other old.file in
          on.over b rest (subst (λ (x : List ℕ). BaseIsOpen x b rest)
          (only_image (disk w f) (on.durable f) (image_of left f) l.other) o)

  pub change_left : (result : Result (Unit {0}) JournalError) → Adds old new change result w v
      → LeavesOnly w v (LeavesEither h change w.output)
  change_left (Ok x) adds = added (Ok x) (adds h on.at)
  change_left (Err SiteFault) (inl closed) = untouched closed.1
  change_left (Err SiteFault) (inr adds) = added (Err SiteFault) (adds.1 h on.at)
  change_left (Err (OutOfSequence a b)) same = untouched same
  change_left (Err (Damaged f o)) same = untouched same
  change_left (Err NoStore) same = untouched same
  change_left (Err StoreExists) same = untouched same
  change_left (Err TooLarge) same = untouched same
  change_left (Err NoMemory) same = untouched same

  pub change_done : (seq : Sequence) (x : Unit {0}) (before now : ℕ) → AddAnswer old new seq change (Ok x) before now
      → Adds old new change (Ok x) w v → IsOnStore new (with_change h change) v
  change_done seq x before now answer adds =
      let a : Added old new h change (Ok x) w v = adds h on.at in
      let file : new.file ≡ old.file = ap (λ (j : Journal). j.file) answer.1 in
      record {
        at = a.ok;
        over = subst (λ (j : Journal). IsOver j.file j.generation (reads_of v (other j.file))) (sym answer.1)
            (over_still (disk v (other old.file)) (ap (λ (d : Disk). d.reads) a.others));
        durable = each_file old.file (λ f. IsDurable (disk v f))
            (subst (λ (f : Which). IsDurable (disk v f)) file a.ok.durable)
            (subst IsDurable (sym a.others) (on.durable (other old.file)));
      }

  pub change_small : (seq : Sequence) (x : Unit {0}) (before now : ℕ) → AddAnswer old new seq change (Ok x) before now
      → Adds old new change (Ok x) w v → length (reads_of v new.file) ≤ 2 ^ 40
  change_small seq x before now answer adds =
      let a : Added old new h change (Ok x) w v = adds h on.at in
      omega (
        arith,
        answer.0.room,
        ap (λ (j : Journal). j.gate) answer.1,
        a.ok.gate,
        ap (λ (l : List ℕ). length l) a.ok.reads,
        length-append (history_bytes new.generation (with_change h change)) a.ok.end,
        end_small a.ok,
      )
    where
      end_small : (k : IsAt new (with_change h change) v) → length k.end ≤ 1
      end_small k = ⊎_elim
          (λ one. omega (arith, ap (λ (l : List ℕ). length l) one))
          (λ none. omega (arith, ap (λ (l : List ℕ). length l) none.0)) k.ends
