-- A front of a file that stands for a history stands for one too, or has no open base. So does what a stop leaves.
use Rattle.std.proofs.Common.{◌≡◌, ◌⊎◌, inl, inr, ⊎_elim, ℕ, ◌+◌, ◌-◌, ◌<◌, ◌≤◌, ◌^◌, List, [], ◌∷◌, ◌++◌, length, take}
use Rattle.std.proofs.Common.{drop, Result, Err, refl}
use Rattle.std.proofs.Common.{sym, ◌∙◌, ap, subst, arith, append_assoc, length-append, take-append-drop}
use Rattle.std.proofs.lemmas.Bool.{cases_lt}
use Rattle.std.proofs.lemmas.List.{length-take}
use Rattle.std.proofs.Math.Seq.{take-append-add}
use Rattle.std.specs.List.{AllByRecursion}
use Rattle.road_base.specs.declared.event.Event.{Event}
use Rattle.road_base.specs.History.{History}
use Rattle.road_io.specs.declared.outside.Which.{Which}
use Rattle.road_io.specs.Disk.{IsImage, IsDurable}
use Rattle.road_io.specs.Outside.{Outside, LeavesOnly, LeavesFile, disk, image_of}
use Rattle.road_io.proofs.PendingImages.{only_image}
use Rattle.road_io.proofs.CallRuns.{only_weaker}
use Rattle.sequence_journal.specs.declared.error.JournalError.{JournalError}
use Rattle.sequence_journal.specs.declared.error.JournalError.TheVariants.{Damaged}
use Rattle.sequence_journal.specs.declared.load.Loaded.{Loaded}
use Rattle.sequence_journal.specs.Layout.{Base, NoBase, Numbered, IsClosed, base_bytes, record_bytes}
use Rattle.sequence_journal.specs.Standing.{EventsFit, Stands, IsIntact, DamagedAt, base_of, record_of}
use Rattle.sequence_journal.specs.Standing.{changes_bytes}
use Rattle.sequence_journal.specs.Basing.{IsBaseImage}
use Rattle.sequence_journal.specs.Loading.{StandAlike, Loads}
use Rattle.sequence_journal.proofs.SameParts.{SameRecord, same_record, base_once}
use Rattle.sequence_journal.proofs.OneHistory.{record_fits, begins_base}
use Rattle.sequence_journal.proofs.MendedFile.{closed_front}

-- these bytes are records of some of the changes, the first ones, and a closed rest
record IsFrontOf (n : ℕ) (cs : List (List Event)) (bytes : List ℕ) : Type 0 where
  changes : List (List Event)
  rest : List ℕ
  split : bytes ≡ changes_bytes n changes ++ rest
  closed : IsClosed rest
  fit : AllByRecursion EventsFit changes
  no_more : length changes ≤ length cs

module _ (n : ℕ) (c : List Event) (behind : List ℕ) (m : ℕ) (small : n + 1 < 2 ^ 64) (fit : EventsFit c) where
  -- a record of which a part is missing
  pub cut_record : m < length (record_bytes (record_of (n + 1) c))
      → IsClosed (take m (record_bytes (record_of (n + 1) c) ++ behind))
  cut_record short q after o =
      let front : List ℕ = record_bytes (record_of (n + 1) c) in
      let whole : List ℕ = front ++ behind in
      let e : record_bytes q ++ (after ++ drop m whole) ≡ front ++ behind =
      sym (append_assoc (record_bytes q) after (drop m whole)) ∙ ap (λ (l : List ℕ). l ++ drop m whole) (sym o.split)
      ∙ take-append-drop m whole in
      let s : SameRecord q (record_of (n + 1) c) (after ++ drop m whole) behind =
      same_record q (record_of (n + 1) c) (after ++ drop m whole) behind o.fits (record_fits (n + 1) c small fit) e in
      omega (
        arith,
        short,
        ap (λ (l : List ℕ). length l) o.split,
        length-append (record_bytes q) after,
        length-take m whole,
        ap (λ (r : Numbered). length (record_bytes r)) s.one,
      )

front_of : (n : ℕ) (cs : List (List Event)) (rest : List ℕ) (m : ℕ) → AllByRecursion EventsFit cs
    → n + length cs < 2 ^ 64
    → IsClosed rest → IsFrontOf n cs (take m (changes_bytes n cs ++ rest))
front_of n [] rest m fit small shut = record {
  changes = [];
  rest = take m rest;
  split = refl;
  closed = closed_front rest m shut;
  fit = tt;
  no_more = omega arith;
}
front_of n (c ∷ cs) rest m fit small shut =
    let front : List ℕ = record_bytes (record_of (n + 1) c) in
    let behind : List ℕ = changes_bytes (n + 1) cs ++ rest in
    let shape : (front ++ changes_bytes (n + 1) cs) ++ rest ≡ front ++ behind =
    append_assoc front (changes_bytes (n + 1) cs) rest in
    ⊎_elim
    (λ short. record {
      changes = [];
      rest = take m (front ++ behind);
      split = ap (λ (l : List ℕ). take m l) shape;
      closed = cut_record n c behind m (omega (arith, small)) fit.0 short;
      fit = tt;
      no_more = omega arith;
    })
    (λ long.
    let f : IsFrontOf (n + 1) cs (take (m - length front) behind) =
    front_of (n + 1) cs rest (m - length front) fit.1 (omega (arith, small)) shut in
    record {
      changes = c ∷ f.changes;
      rest = f.rest;
      split = ap (λ (l : List ℕ). take m l) shape
          ∙ ap (λ (x : ℕ). take x (front ++ behind)) (omega (arith, long))
          ∙ take-append-add front behind (m - length front) ∙ ap (λ (l : List ℕ). front ++ l) f.split
          ∙ sym (append_assoc front (changes_bytes (n + 1) f.changes) f.rest);
      closed = f.closed;
      fit = (fit.0, f.fit);
      no_more = omega (arith, f.no_more);
    })
    (cases_lt m (length front))

-- a front of a file without an open base has none
front_without : (n : ℕ) (file : List ℕ) → NoBase file → NoBase (take n file)
front_without n file none b rest o = none b (rest ++ drop n file) (record {
  fits = o.fits;
  split = sym (take-append-drop n file) ∙ ap (λ (l : List ℕ). l ++ drop n file) o.split
      ∙ append_assoc (base_bytes b) rest (drop n file);
})

module _ (file : List ℕ) (n g : ℕ) (h : History) (s : Stands file g h) where
  base : List ℕ
  base = base_bytes (base_of h.profile g h.base_number h.base_events)

  -- a part of the base is missing
  cut_base : n < length (base_bytes (base_of h.profile g h.base_number h.base_events)) → NoBase (take n file)
  cut_base short b rest o =
      let once = base_once file b (base_of h.profile g h.base_number h.base_events) (rest ++ drop n file)
      (changes_bytes h.base_number h.changes ++ s.rest) (record {
        fits = o.fits;
        split = sym (take-append-drop n file) ∙ ap (λ (l : List ℕ). l ++ drop n file) o.split
            ∙ append_assoc (base_bytes b) rest (drop n file);
      }) (begins_base file g h s.rest s.begins) in
      omega (
        arith,
        short,
        ap (λ (l : List ℕ). length l) o.split,
        length-append (base_bytes b) rest,
        length-take n file,
        ap (λ (x : Base). length (base_bytes x)) once.one,
      )

  cut_changes : length (base_bytes (base_of h.profile g h.base_number h.base_events)) ≤ n → IsIntact (take n file)
  cut_changes long =
      let front : List ℕ = base_bytes (base_of h.profile g h.base_number h.base_events) in
      let behind : List ℕ = changes_bytes h.base_number h.changes ++ s.rest in
      let f : IsFrontOf h.base_number h.changes (take (n - length front) behind) =
      front_of h.base_number h.changes s.rest (n - length front) s.begins.fits.changes s.begins.fits.kept_fits
      s.closed in
      inr (
        g,
        record h { changes = f.changes },
        record {
          rest = f.rest;
          begins = record {
            split = ap (λ (l : List ℕ). take n l)
                (s.begins.split ∙ append_assoc front (changes_bytes h.base_number h.changes) s.rest)
                ∙ ap (λ (x : ℕ). take x (front ++ behind)) (omega (arith, long))
                ∙ take-append-add front behind (n - length front) ∙ ap (λ (l : List ℕ). front ++ l) f.split
                ∙ sym (append_assoc front (changes_bytes h.base_number f.changes) f.rest);
            fits = record {
              profile = s.begins.fits.profile;
              generation_fits = s.begins.fits.generation_fits;
              kept_fits = omega (arith, s.begins.fits.kept_fits, f.no_more);
              base = s.begins.fits.base;
              changes = f.fit;
            };
          };
          closed = f.closed;
        },
      )

pub intact_front : (file : List ℕ) (n : ℕ) → IsIntact file → IsIntact (take n file)
intact_front file n (inl none) = inl (front_without n file none)
intact_front file n (inr stands) = ⊎_elim (λ short. inl (cut_base file n stands.0 stands.1 stands.2 short))
    (λ long. cut_changes file n stands.0 stands.1 stands.2 long)
    (cases_lt n (length (base_bytes (base_of stands.1.profile stands.0 stands.1.base_number stands.1.base_events))))

-- and so is what a stop leaves while a base is written
pub intact_base : (was image : List ℕ) (g : ℕ) (h : History) → IsIntact was → IsBaseImage was g h image
    → IsIntact image
intact_base was image g h intact (inl front) = subst IsIntact (sym front.1) (intact_front was front.0 intact)
intact_base was image g h intact (inr (inl none)) = inl none
intact_base was image g h intact (inr (inr stands)) = inr (g, h, stands)

-- and while the file is loaded
pub loads_intact : (file : Which) (result : Result Loaded JournalError) (w v : Outside) → IsDurable (disk w file)
    → IsIntact (disk w file).reads → Loads file result w v → LeavesOnly w v (λ left. IsIntact (image_of left file))
loads_intact file result w v durable intact l = only_weaker w v
    (LeavesFile file (λ image. IsImage (disk w file) image ⊎ StandAlike (disk w file).reads image) w)
    (λ left. IsIntact (image_of left file)) l.any_moment
    (λ left at. ⊎_elim
    (λ there. subst IsIntact (sym (only_image (disk w file) durable (image_of left file) there)) intact)
    (λ alike. inr (alike.0, alike.1, alike.3)) at.image)

pub loads_undamaged : ((file : List ℕ) (offset : ℕ) → IsIntact file → DamagedAt file offset → ⊥)
    → (file place : Which) (offset : ℕ) (w v : Outside) → IsIntact (disk w file).reads
    → Loads file (Err (Damaged place offset)) w v → ⊥
loads_undamaged never file place offset w v intact l = never (disk w file).reads offset intact l.answer.0.1
