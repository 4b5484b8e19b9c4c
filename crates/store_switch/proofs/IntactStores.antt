-- Two files stand for one history, and what a stop leaves of intact files is intact.
use Rattle.std.proofs.Common.{◌≡◌, ◌⊎◌, inl, inr, ⊎_elim, ℕ, List, ◌++◌}
use Rattle.std.proofs.Common.{Result, Err, sym, subst}
use Rattle.road_base.specs.declared.event.Event.{Event}
use Rattle.road_base.specs.History.{History}
use Rattle.road_io.specs.declared.outside.Which.{Which}
use Rattle.road_io.specs.Outside.{Outside, Left, IsLeft, LeavesOnly, disk, other, present, image_of}
use Rattle.road_io.proofs.PendingImages.{only_image}
use Rattle.road_io.proofs.CallRuns.{only_weaker}
use Rattle.sequence_journal.specs.declared.error.JournalError.{JournalError}
use Rattle.sequence_journal.specs.declared.error.JournalError.TheVariants.{Damaged}
use Rattle.sequence_journal.specs.declared.journal.Journal.{Journal}
use Rattle.sequence_journal.specs.declared.load.Loaded.{Loaded}
use Rattle.sequence_journal.specs.Layout.{BaseIsOpen, NoBase}
use Rattle.sequence_journal.specs.Standing.{Stands, IsIntact, DamagedAt, base_of, changes_bytes}
use Rattle.sequence_journal.specs.Basing.{base_alone}
use Rattle.sequence_journal.proofs.OneHistory.{begins_base}
use Rattle.sequence_journal.proofs.SettledFile.{leaves_now}
use Rattle.store_switch.specs.LiveFile.{IsLive, NoBases, BothDurable, reads_of}
use Rattle.store_switch.specs.TwoFiles.{StandOn, StandFor, CanBeLoaded, AreIntact, LeavesStore}
use Rattle.store_switch.specs.StoreLoading.{LeavesAlike, LoadsStore}
use Rattle.store_switch.specs.StoreCreating.{LeavesNewOrNone, CreatesStore}
use Rattle.sequence_journal.proofs.MendedFile.{StandsOnce}
use Rattle.store_switch.proofs.LiveFiles.{live_once}

live_of : (files : Which → List ℕ) (f : Which) (g : ℕ) (h : History) → StandOn f g files h → IsLive f files
live_of files f g h s = record {
  base = base_of h.profile g h.base_number h.base_events;
  rest = changes_bytes h.base_number h.changes ++ s.stands.rest;
  is_open = begins_base (files f) g h s.stands.rest s.stands.begins;
  over = s.over;
}

pub store_once : StandsOnce → (files : Which → List ℕ) (f k : Which) (g n : ℕ) (h i : History)
    → StandOn f g files h → StandOn k n files i → (f ≡ k) × (g ≡ n) × (h ≡ i)
store_once one files f k g n h i s t =
    let live : f ≡ k = live_once files f k (live_of files f g h s) (live_of files k n i t) in
    let both = one (files k) g n h i (subst (λ (x : Which). Stands (files x) g h) live s.stands) t.stands in
    (live, both.0, both.1)

-- ---- damage

abbrev pub NoDamage : Type 0
NoDamage = (file : List ℕ) (offset : ℕ) → IsIntact file → DamagedAt file offset → ⊥

pub intact_undamaged : NoDamage → (files : Which → List ℕ) (live : Which) (offset : ℕ) → AreIntact files
    → IsLive live files → DamagedAt (files live) offset → ⊥
intact_undamaged never files live offset (inl none) l d = never (files live) offset (inl (none live)) d
intact_undamaged never files live offset (inr store) l d =
    let h = store.0 in
    let f = store.1.0 in
    let g = store.1.1 in
    let s : StandOn f g files h = store.1.2 in
    let same : live ≡ f = live_once files live f l (live_of files f g h s) in
    never (files f) offset (inr (g, h, s.stands)) (subst (λ (k : Which). DamagedAt (files k) offset) same d)

pub intact_loads : NoDamage → (w v : Outside) (file : Which) (offset : ℕ) → AreIntact (reads_of w)
    → LoadsStore (Err (Damaged file offset)) w v → ⊥
intact_loads never w v file offset intact l =
    intact_undamaged never (reads_of w) l.answer.live offset intact l.answer.is_live l.answer.refused.1

-- ---- the same bytes

module _ (files images : Which → List ℕ) (same : (file : Which) → images file ≡ files file) where
  pub same_store : (f : Which) (g : ℕ) (h : History) → StandOn f g files h → StandOn f g images h
  same_store f g h s = record {
    stands = subst (λ (l : List ℕ). Stands l g h) (sym (same f)) s.stands;
    over = λ b rest o. s.over b rest (subst (λ (l : List ℕ). BaseIsOpen l b rest) (same (other f)) o);
  }

  pub still_for : (h : History) → StandFor files h → StandFor images h
  still_for h s = (s.0, s.1, same_store s.0 s.1 h s.2)

  pub still_intact : AreIntact files → AreIntact images
  still_intact (inl none) = inl (λ f. subst NoBase (sym (same f)) (none f))
  still_intact (inr store) = inr (store.0, still_for store.0 store.1)

pub left_there : (w : Outside) (left : Left) (file : Which) → BothDurable w → IsLeft (present w) left
    → image_of left file ≡ reads_of w file
left_there w left file durable l = (leaves_now file (λ c. c ≡ reads_of w file) w
    (only_image (disk w file) (durable file)) left l).image

-- ---- what a stop leaves

module _ (result : Result Loaded JournalError) (w v : Outside) where
  pub load_leaves_history : StandsOnce → (h : History) → StandFor (reads_of w) h → LoadsStore result w v
      → LeavesOnly w v (λ left. IsLeft (present w) left ⊎ LeavesStore h w.output left)
  load_leaves_history one h s l = only_weaker w v (λ left. IsLeft (present w) left ⊎ LeavesAlike w left)
      (λ left. IsLeft (present w) left ⊎ LeavesStore h w.output left) l.any_moment (λ left. ⊎_elim
      (λ there. inl there)
      (λ alike. let live = alike.1 in
      let same : alike.0 ≡ h = (store_once one (reads_of w) live.0 s.0 live.1 s.1 alike.0 h live.2 s.2).2 in
      inr (subst (λ (i : History). LeavesStore i w.output left) same alike.2)))

  pub load_leaves_nothing : ((h : History) → CanBeLoaded (reads_of w) h → ⊥) → LoadsStore result w v
      → LeavesOnly w v (IsLeft (present w))
  load_leaves_nothing none l = only_weaker w v (λ left. IsLeft (present w) left ⊎ LeavesAlike w left)
      (IsLeft (present w)) l.any_moment (λ left. ⊎_elim (λ there. there) (λ alike. absurd (none alike.0 alike.1)))

  pub load_leaves_intact : BothDurable w → AreIntact (reads_of w) → LoadsStore result w v
      → LeavesOnly w v (λ left. AreIntact (image_of left))
  load_leaves_intact durable intact l = only_weaker w v (λ left. IsLeft (present w) left ⊎ LeavesAlike w left)
      (λ left. AreIntact (image_of left)) l.any_moment (λ left. ⊎_elim
      (λ there. still_intact (reads_of w) (image_of left) (λ f. left_there w left f durable there) intact)
      (λ alike. inr (alike.0, alike.2.files)))

module _ (number : ℕ) (events : List Event) (result : Result Journal JournalError) (w v : Outside) where
  pub creation_leaves_nothing : (NoBases (reads_of w) → ⊥) → CreatesStore number events result w v
      → LeavesOnly w v (IsLeft (present w))
  creation_leaves_nothing some k =
      only_weaker w v (λ left. IsLeft (present w) left ⊎ LeavesNewOrNone number events w left)
      (IsLeft (present w)) k.any_moment (λ left. ⊎_elim (λ there. there) (λ new. absurd (some new.0)))

  pub creation_leaves_intact : BothDurable w → AreIntact (reads_of w) → CreatesStore number events result w v
      → LeavesOnly w v (λ left. AreIntact (image_of left))
  creation_leaves_intact durable intact k =
      only_weaker w v (λ left. IsLeft (present w) left ⊎ LeavesNewOrNone number events w left)
      (λ left. AreIntact (image_of left)) k.any_moment (λ left. ⊎_elim
      (λ there. still_intact (reads_of w) (image_of left) (λ f. left_there w left f durable there) intact)
      (λ new. ⊎_elim (λ none. inl none.0) (λ store. inr (base_alone 1 number events, store.files)) new.1))
