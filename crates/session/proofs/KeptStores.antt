-- Stores on which a journal stands, while only the output grows.
use Rattle.std.proofs.Common.{◌≡◌, ℕ, ◌≤◌, ◌^◌, List, length, refl, sym, ap, subst}
use Rattle.road_base.specs.History.{History}
use Rattle.road_io.specs.declared.outside.Which.{Which}
use Rattle.road_io.specs.declared.outside.Which.TheVariants.{A, B}
use Rattle.road_io.specs.Disk.{Disk, IsImage, IsDurable}
use Rattle.road_io.specs.Outside.{Outside, Left, image_of, other}
use Rattle.sequence_journal.specs.declared.journal.Journal.{Journal}
use Rattle.sequence_journal.specs.Layout.{BaseIsOpen}
use Rattle.sequence_journal.specs.Standing.{Stands}
use Rattle.store_switch.specs.LiveFile.{BothDurable, reads_of}
use Rattle.store_switch.specs.TwoFiles.{StandFor, CanBeLoaded, IsOnStore}
use Rattle.session.specs.StoreLaws.{StoreLaws}
use Rattle.session.specs.Conversation.{Kept}
use Rattle.session.specs.Conversing.{IsKept}
use Rattle.session.proofs.OutputFronts.{starts_whole}

-- ---- images of files

-- what a stop leaves of the files, before anything more is put
abbrev pub unput : Outside → Left → Left
unput v left = record { a = left.a; b = left.b; out = v.output }

pub stands_still : (files images : Which → List ℕ) → ((f : Which) → images f ≡ files f) → (h : History)
    → StandFor files h → StandFor images h
stands_still files images same h s = (
  s.0,
  s.1,
  record {
    stands = subst (λ (l : List ℕ). Stands l s.1 h) (sym (same s.0)) s.2.stands;
    over = λ b rest o. s.2.over b rest (subst (λ (l : List ℕ). BaseIsOpen l b rest) (same (other s.0)) o);
  },
)

-- images of both files stand for the history, whatever the output is
pub images_stand : StoreLaws → (j : Journal) (h : History) (w : Outside) (left : Left) → IsOnStore j h w
    → IsImage w.a left.a → IsImage w.b left.b → StandFor (image_of left) h
images_stand laws j h w left on a b =
    stands_still (image_of (unput w left)) (image_of left) same h (laws.stopped j h w (unput w left) on (record {
      a = a;
      b = b;
      no_less = starts_whole w.output;
      no_more = starts_whole w.output;
    })).files
  where
    same : (f : Which) → image_of left f ≡ image_of (unput w left) f
    same A = refl
    same B = refl

-- ---- a put changes no file

module _ (w v : Outside) (same_a : v.a ≡ w.a) (same_b : v.b ≡ w.b) where
  reads : (file : Which) → reads_of v file ≡ reads_of w file
  reads A = ap (λ (d : Disk). d.reads) same_a
  reads B = ap (λ (d : Disk). d.reads) same_b

  durable : BothDurable w → BothDurable v
  durable was A = subst IsDurable (sym same_a) (was A)
  durable was B = subst IsDurable (sym same_b) (was B)

  pub on_still : StoreLaws → (j : Journal) (h : History) → IsOnStore j h w → IsOnStore j h v
  on_still laws j h on = laws.stays j h w v on reads (durable on.durable)

  pub small_still : (j : Journal) → length (reads_of w j.file) ≤ 2 ^ 40 → length (reads_of v j.file) ≤ 2 ^ 40
  small_still j small = subst (λ (l : List ℕ). length l ≤ 2 ^ 40) (sym (reads j.file)) small

  pub kept_still : StoreLaws → {B : Type 0} (Stands : History → B → Type 0) (j : Journal) (from : Kept B)
      → IsKept Stands j from w → IsKept Stands j from v
  kept_still laws {B} Stands j from k = record {
    on_store = on_still laws j from.history k.on_store;
    small = small_still j k.small;
    stands = k.stands;
    room = k.room;
  }

-- files on which a journal stands can be loaded
pub can_be_loaded : StoreLaws → (j : Journal) (h : History) (w : Outside) → IsOnStore j h w
    → length (reads_of w j.file) ≤ 2 ^ 40 → CanBeLoaded (reads_of w) h
can_be_loaded laws j h w on small = (j.file, j.generation, laws.stand j h w on, small)
