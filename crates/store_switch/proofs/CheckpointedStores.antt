-- What going on in the other file leaves, from what writing its base leaves.
use Rattle.std.proofs.Common.{◌≡◌, ◌⊎◌, inl, inr, ⊎_elim, ℕ, ◌+◌, ◌≤◌, ◌^◌, List, ◌++◌, length, take, drop, false}
use Rattle.std.proofs.Common.{Result, Ok, Err, refl, sym, ◌∙◌, ap, subst, arith, append_assoc, take-append-drop}
use Rattle.std.proofs.Common.{length-append}
use Rattle.road_base.specs.declared.event.Event.{Event}
use Rattle.road_base.specs.declared.ids.Sequence.{Sequence}
use Rattle.road_base.specs.History.{History, kept}
use Rattle.road_io.specs.declared.outside.Which.{Which}
use Rattle.road_io.specs.declared.outside.Which.TheVariants.{A, B}
use Rattle.road_io.specs.Disk.{Disk, IsImage, IsDurable}
use Rattle.road_io.specs.Outside.{Outside, Left, LeavesOnly, LeavesFile, disk, other, image_of}
use Rattle.road_io.proofs.PendingImages.{only_image}
use Rattle.road_io.proofs.CallRuns.{started, only_weaker}
use Rattle.sequence_journal.specs.declared.error.JournalError.{JournalError}
use Rattle.sequence_journal.specs.declared.error.JournalError.TheVariants.{OutOfSequence, SiteFault, Damaged, NoStore}
use Rattle.sequence_journal.specs.declared.error.JournalError.TheVariants.{StoreExists, TooLarge, NoMemory}
use Rattle.sequence_journal.specs.declared.journal.Journal.{Journal}
use Rattle.sequence_journal.specs.Layout.{Base, base_bytes}
use Rattle.sequence_journal.specs.Standing.{Stands, base_of, changes_bytes, history_bytes}
use Rattle.sequence_journal.specs.Journal.{IsAt}
use Rattle.sequence_journal.specs.Basing.{IsBaseImage, Based, WritesWithin, base_alone}
use Rattle.sequence_journal.proofs.SameParts.{base_once}
use Rattle.sequence_journal.proofs.OneHistory.{begins_base}
use Rattle.store_switch.specs.LiveFile.{Beats, IsOver, reads_of}
use Rattle.store_switch.specs.TwoFiles.{StandFor, AreIntact, IsOnStore}
use Rattle.store_switch.specs.Checkpointing.{checkpoint_of, CheckpointAnswer}
use Rattle.store_switch.specs.Checkpointing.{LeavesCheckpoint, Checkpointed, Checkpoints}
use Rattle.store_switch.proofs.StoreLoads.{each_file}
use Rattle.store_switch.proofs.ChangedStores.{journal_stands, journal_left}

pub twice : (f : Which) → other (other f) ≡ f
twice A = refl
twice B = refl

-- ---- which base wins

-- a front of a file has no base but that of the file
over_front : (live : Which) (g n : ℕ) (file : List ℕ) → IsOver live g file → IsOver live g (take n file)
over_front live g n file over b rest o = over b (rest ++ drop n file) (record {
  fits = o.fits;
  split = sym (take-append-drop n file) ∙ ap (λ (l : List ℕ). l ++ drop n file) o.split
      ∙ append_assoc (base_bytes b) rest (drop n file);
})

beats_next : (f : Which) (g k : ℕ) → k ≡ g → Beats f (g + 1) k
beats_next A g k e = omega (arith, e)
beats_next B g k e = omega (arith, e)

-- the next generation is over a file that stands for a history
over_older : (f : Which) (g : ℕ) (h : History) (file : List ℕ) → Stands file g h → IsOver f (g + 1) file
over_older f g h file s b rest o =
    let once = base_once file b (base_of h.profile g h.base_number h.base_events) rest
    (changes_bytes h.base_number h.changes ++ s.rest) o (begins_base file g h s.rest s.begins) in
    beats_next f g b.generation (ap (λ (x : Base). x.generation) once.one)

-- ---- what a stop leaves

-- the live file stands for h, and a base of the next generation for i is written over the other one
either : (f : Which) (g : ℕ) (h i : History) (was : List ℕ) (files : Which → List ℕ) → Stands (files f) g h
    → IsOver f g was → IsBaseImage was (g + 1) i (files (other f)) → StandFor files h ⊎ StandFor files i
either f g h i was files s over (inl front) =
    inl (f, g, record { stands = s; over = subst (IsOver f g) (sym front.1) (over_front f g front.0 was over) })
either f g h i was files s over (inr (inl none)) =
    inl (f, g, record { stands = s; over = λ b rest o. absurd (none b rest o) })
either f g h i was files s over (inr (inr new)) = inr (
  other f,
  g + 1,
  record {
    stands = new;
    over = over_older (other f) g h (files (other (other f)))
        (subst (λ (k : Which). Stands (files k) g h) (sym (twice f)) s);
  },
)

module _ (old : Journal) (profile : ℕ) (events : List Event) (h : History) (w v : Outside)
    (on : IsOnStore old h w) where
  abbrev to : Which
  to = other old.file

  -- what was written, under the number that the history has
  same_base : (result : Result Journal JournalError)
      → Based to (old.generation + 1) (base_alone profile old.kept.0 events) result w v
      → Based to (old.generation + 1) (checkpoint_of profile h events) result w v
  same_base result b =
      subst (λ (n : ℕ). Based to (old.generation + 1) (base_alone profile n events) result w v) on.at.last b

  moments : (result : Result Journal JournalError)
      → Based to (old.generation + 1) (checkpoint_of profile h events) result w v
      → LeavesOnly w v (LeavesCheckpoint profile h events w.output)
  moments result b = only_weaker w v
      (LeavesFile to (IsBaseImage (disk w to).reads (old.generation + 1) (checkpoint_of profile h events)) w)
      (LeavesCheckpoint profile h events w.output) b.any_moment
      (λ left l. record {
        files = either old.file old.generation h (checkpoint_of profile h events) (disk w to).reads (image_of left)
            (subst (λ (x : List ℕ). Stands x old.generation h) (sym (mine left l.other))
            (journal_stands old h w on).stands)
            on.over l.image;
        out = l.out;
      })
    where
      mine : (left : Left) → IsImage (disk w (other to)) (image_of left (other to))
          → image_of left old.file ≡ (disk w old.file).reads
      mine left is = only_image (disk w old.file) (on.durable old.file) (image_of left old.file)
          (subst (λ (k : Which). IsImage (disk w k) (image_of left k)) (twice old.file) is)

  was_live : disk v (other to) ≡ disk w (other to) → disk v old.file ≡ disk w old.file
  was_live same = subst (λ (k : Which). disk v k ≡ disk w k) (twice old.file) same

  now_on : (j : Journal) → IsAt j (checkpoint_of profile h events) v → j.file ≡ to → j.generation ≡ old.generation + 1
      → disk v old.file ≡ disk w old.file → IsOnStore j (checkpoint_of profile h events) v
  now_on j at file generation same = record {
    at = at;
    over = subst (λ (k : Which). IsOver k j.generation (reads_of v (other k))) (sym file)
        (subst (λ (n : ℕ). IsOver to n (reads_of v (other to))) (sym generation)
        (over_older to old.generation h (reads_of v (other to)) stands));
    durable = each_file to (λ k. IsDurable (disk v k))
        (subst (λ (k : Which). IsDurable (disk v k)) file at.durable)
        (subst (λ (k : Which). IsDurable (disk v k)) (sym (twice old.file))
        (subst IsDurable (sym same) (on.durable old.file)));
  }
    where
      stands : Stands (reads_of v (other to)) old.generation h
      stands = subst (λ (k : Which). Stands (reads_of v k) old.generation h) (sym (twice old.file))
          (subst (λ (d : Disk). Stands d.reads old.generation h) (sym same) (journal_stands old h w on).stands)

  gone : (new : Journal) (x : Unit {0})
      → Based to (old.generation + 1) (base_alone profile old.kept.0 events) (Ok new) w v
      → Checkpointed old new profile h events (Ok x) w v
  gone new x based =
      let b = same_base (Ok new) based in
      let same = was_live b.others in
      record {
        any_moment = moments (Ok new) b;
        ok = now_on new b.answer.0 b.answer.1 b.answer.2 same;
        was_live = same;
        output = b.output;
      }

  failed : (new : Journal) → Based to (old.generation + 1) (base_alone profile old.kept.0 events) (Err SiteFault) w v
      → Checkpointed old new profile h events (Err SiteFault) w v
  failed new based =
      let b = same_base (Err SiteFault) based in
      record { any_moment = moments (Err SiteFault) b; ok = tt; was_live = was_live b.others; output = b.output }

-- ---- as the code's values have it

module _ (old : Journal) (profile : ℕ) (events : List Event) (file : Which) (generation : ℕ) (last : Sequence)
    (is : file ≡ other old.file) (next : generation ≡ old.generation + 1) (same : last ≡ old.kept) where
  as_told : (result : Result Journal JournalError) (w v : Outside)
      → WritesWithin file generation (base_alone profile last.0 events) result w v
      → WritesWithin (other old.file) (old.generation + 1) (base_alone profile old.kept.0 events) result w v
  as_told result w v writes =
      subst (λ (k : Which). WritesWithin k (old.generation + 1) (base_alone profile old.kept.0 events) result w v) is
      (subst (λ (g : ℕ). WritesWithin file g (base_alone profile old.kept.0 events) result w v) next
      (subst (λ (n : Sequence). WritesWithin file generation (base_alone profile n.0 events) result w v) same writes))

  pub checkpoint_done : (new : Journal) (x : Unit {0}) (w v : Outside)
      → WritesWithin file generation (base_alone profile last.0 events) (Ok new) w v
      → Checkpoints old new profile events (Ok x) w v
  checkpoint_done new x w v writes h on =
      gone old profile events h w v on new x (as_told (Ok new) w v writes (on.durable (other old.file)))

  refused : (e : JournalError) (new : Journal) (w v : Outside) → old.closed ≡ false
      → WritesWithin (other old.file) (old.generation + 1) (base_alone profile old.kept.0 events) (Err e) w v
      → Checkpoints old new profile events (Err e) w v
  refused SiteFault new w v not_closed writes =
      inr (not_closed, λ h on. failed old profile events h w v on new (writes (on.durable (other old.file))))
  refused NoMemory new w v not_closed untouched = untouched
  refused TooLarge new w v not_closed untouched = untouched
  refused (OutOfSequence a b) new w v not_closed never = absurd never
  refused (Damaged f o) new w v not_closed never = absurd never
  refused NoStore new w v not_closed never = absurd never
  refused StoreExists new w v not_closed never = absurd never

  pub checkpoint_refused : (e : JournalError) (new : Journal) (w v : Outside) → old.closed ≡ false
      → WritesWithin file generation (base_alone profile last.0 events) (Err e) w v
      → Checkpoints old new profile events (Err e) w v
  checkpoint_refused e new w v not_closed writes = refused e new w v not_closed (as_told (Err e) w v writes)

-- ---- for the callers

module _ (old new : Journal) (profile : ℕ) (h : History) (events : List Event) (w v : Outside)
    (on : IsOnStore old h w) where
  untouched : v ≡ w → LeavesOnly w v (LeavesCheckpoint profile h events w.output)
  untouched same = subst (λ (x : Outside). LeavesOnly w x (LeavesCheckpoint profile h events w.output)) (sym same)
      (started w (LeavesCheckpoint profile h events w.output) (λ left l. let k = journal_left old h w left on l in
      record { files = inl k.files; out = k.out }))

  pub checkpoint_left : (result : Result (Unit {0}) JournalError) → Checkpoints old new profile events result w v
      → LeavesOnly w v (LeavesCheckpoint profile h events w.output)
  checkpoint_left (Ok x) goes = (goes h on).any_moment
  checkpoint_left (Err SiteFault) (inl closed) = untouched closed.1
  checkpoint_left (Err SiteFault) (inr goes) = (goes.1 h on).any_moment
  checkpoint_left (Err (OutOfSequence a b)) same = untouched same
  checkpoint_left (Err (Damaged f o)) same = untouched same
  checkpoint_left (Err NoStore) same = untouched same
  checkpoint_left (Err StoreExists) same = untouched same
  checkpoint_left (Err TooLarge) same = untouched same
  checkpoint_left (Err NoMemory) same = untouched same

  pub checkpoint_intact : (result : Result (Unit {0}) JournalError) → Checkpoints old new profile events result w v
      → LeavesOnly w v (λ left. AreIntact (image_of left))
  checkpoint_intact result goes = only_weaker w v (LeavesCheckpoint profile h events w.output)
      (λ left. AreIntact (image_of left)) (checkpoint_left result goes) (λ left l. ⊎_elim
      (λ s. inr (h, s)) (λ s. inr (checkpoint_of profile h events, s)) l.files)

  pub checkpoint_small : (x : Unit {0}) (before now : ℕ) → CheckpointAnswer old new profile events (Ok x) before now
      → Checkpoints old new profile events (Ok x) w v → length (reads_of v new.file) ≤ 2 ^ 40
  checkpoint_small x before now answer goes =
      let at : IsAt new (checkpoint_of profile h events) v = (goes h on).ok.at in
      omega (
        arith,
        answer.0.room,
        ap (λ (j : Journal). j.gate) answer.1,
        at.gate,
        ap (λ (l : List ℕ). length l) at.reads,
        length-append (history_bytes new.generation (checkpoint_of profile h events)) at.end,
        end_small at,
      )
    where
      end_small : (k : IsAt new (checkpoint_of profile h events) v) → length k.end ≤ 1
      end_small k = ⊎_elim
          (λ one. omega (arith, ap (λ (l : List ℕ). length l) one))
          (λ none. omega (arith, ap (λ (l : List ℕ). length l) none.0)) k.ends
