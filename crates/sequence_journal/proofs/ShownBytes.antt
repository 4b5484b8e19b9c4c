-- The bytes that a window shows are those of the file.
use Rattle.std.proofs.Common.{◌≡◌, ⊎_elim, ℕ, ◌+◌, ◌-◌, ◌≤◌, List, [], length, take, drop, Option, None}
use Rattle.std.proofs.Common.{Some, IfSome}
use Rattle.std.proofs.Common.{◌⊎◌, Ok, Err, sym, ◌∙◌, ap, arith}
use Rattle.std.proofs.lemmas.List.{take-take, drop-take, drop-drop, take_all, length-take}
use Rattle.std.proofs.lemmas.Bool.{cases_lt}
use Rattle.road_io.specs.declared.outside.Which.{Which}
use Rattle.road_io.specs.Disk.{Disk}
use Rattle.road_io.specs.Outside.{Outside, disk}
use Rattle.road_io.proofs.QuietRuns.{quiet_start, quiet_disk}
use Rattle.road_io.specs.Told.{Told}
use Rattle.sequence_journal.specs.declared.error.JournalError.{JournalError}
use Rattle.sequence_journal.specs.declared.error.JournalError.TheVariants.{SiteFault, NoMemory}
use Rattle.sequence_journal.specs.declared.window.Window.{Window}
use Rattle.sequence_journal.specs.Reading.{Fills}
use Rattle.sequence_journal.specs.Windows.{Holds, Shows}

-- what is seen of a part of a list is what the list has there
seen_part : (xs : List ℕ) (n skipped size : ℕ) → skipped + size ≤ n
    → take size (drop skipped (take n xs)) ≡ take size (drop skipped xs)
seen_part xs n skipped size le =
    ap (λ (k : ℕ). take size (drop skipped (take k xs))) (omega (arith, le))
    ∙ ap (λ (l : List ℕ). take size l) (drop-take skipped (n - skipped) xs)
    ∙ take-take size (n - skipped) (drop skipped xs) (omega (arith, le))

-- the bytes are there already
pub shown_already : (file : Which) (window : Window) (at size : ℕ) (w : Outside) → Holds file window w
    → window.from ≤ at
    → at + size ≤ window.from + length window.bytes.items → Shows file window at size (Ok tt) w w
shown_already file window at size w holds begins reaches =
    let there : List ℕ = drop window.from (disk w file).reads in
    let n : ℕ = length window.bytes.items in
    record {
      quiet = quiet_start w;
      answer = ap (λ (l : List ℕ). take size (drop (at - window.from) l)) holds
          ∙ seen_part there n (at - window.from) size (omega (arith, begins, reaches))
          ∙ ap (λ (l : List ℕ). take size l) (drop-drop (at - window.from) window.from (disk w file).reads)
          ∙ ap (λ (k : ℕ). take size (drop k (disk w file).reads)) (omega (arith, begins));
    }

module _ (file : Which) (window : Window) (at n size : ℕ) (buf : List ℕ) (w v : Outside) (few : n ≤ length buf)
    (from : window.from ≡ at) (bytes : window.bytes.items ≡ take n buf) (fills : Fills file at buf (Ok n) w v) where
  read : window.bytes.items ≡ take (length buf) (drop at (disk w file).reads)
  read = bytes ∙ fills.answer

  pub shown_now : size ≤ length buf → Shows file window at size (Ok tt) w v
  shown_now fits = record {
    quiet = fills.quiet;
    answer = let here : at - window.from ≡ 0 = omega (arith, from) in
        ap (λ (k : ℕ). take size (drop k window.bytes.items)) here
        ∙ ap (λ (l : List ℕ). take size l) read ∙ take-take size (length buf) (drop at (disk w file).reads) fits;
  }

  -- as many as there are of them
  all_of : (m : ℕ) (xs ys : List ℕ) → ys ≡ take m xs → ys ≡ take (length ys) xs
  all_of m xs ys is = ⊎_elim
      (λ less. is ∙ ap (λ (k : ℕ). take k xs) (omega (
        arith,
        less,
        ap (λ (l : List ℕ). length l) is,
        length-take m
            xs,
      )))
      (λ more. is ∙ take_all m xs more
      ∙ sym (take_all (length ys) xs (omega (arith, more, ap (λ (l : List ℕ). length l) is, length-take m xs))))
      (cases_lt m (length xs))

  pub holds_now : Holds file window v
  holds_now =
      let same : (disk v file).reads ≡ (disk w file).reads = ap (λ (d : Disk). d.reads)
      (quiet_disk file w v fills.quiet) in
      all_of (length buf) (drop at (disk w file).reads) window.bytes.items read
      ∙ ap (λ (k : ℕ). take (length window.bytes.items) (drop k (disk w file).reads)) (sym from)
      ∙ ap (λ (l : List ℕ). take (length window.bytes.items) (drop window.from l)) (sym same)

-- where nothing is held, nothing is claimed
pub holds_nothing : (x : Option Outside) (file : Which) (window : Window) → window.bytes.items ≡ []
    → IfSome x (Holds file window)
holds_nothing None file window none = tt
holds_nothing (Some w) file window none =
    none ∙ ap (λ (l : List ℕ). take (length l) (drop window.from (disk w file).reads)) (sym none)

pub unshown : (file : Which) (window : Window) (at size : ℕ) (e : JournalError) (w : Outside)
    → (e ≡ SiteFault) ⊎ (e ≡ NoMemory) → Shows file window at size (Err e) w w
unshown file window at size e w cause = record { quiet = quiet_start w; answer = cause }

-- what holds of what is told, with no call made
pub told_held : {W : Type 0} (x : Option W) (P : W → Type 0) (S : W → W → Type 0) → IfSome x P
    → ((w : W) → P w → S w w) → Told S x x
told_held None P S holds f = tt
told_held (Some w) P S holds f = f w holds
