-- The images of a file while one write or cut is pending on it.
use Rattle.std.proofs.Common.{◌≡◌, ⊎_elim, ℕ, ◌+◌, ◌<◌, ◌≤◌, max, min, List, ◌∷◌, length, get_or, take, drop}
use Rattle.std.proofs.Common.{refl, sym, ◌∙◌, ap, subst, arith}
use Rattle.std.proofs.lemmas.List.{length-take, length-drop, ext_get_or, get_or-take, get_or-drop}
use Rattle.road_io.specs.Disk.{Disk, IsImage, IsTorn, IsDurable, settled, written, IsPartWritten, cut_off, IsPartCut}

-- nothing is pending on a settled file
pub settled_durable : (bytes : List ℕ) → IsDurable (settled bytes)
settled_durable bytes = record { synced = refl; least = refl; greatest = refl; whole = λ k le torn. torn }

-- nothing else is left of a file on which nothing is pending
pub only_image : (d : Disk) → IsDurable d → (c : List ℕ) → IsImage d c → c ≡ d.reads
only_image d durable c i =
    let long : length c ≡ length d.reads =
    omega (arith, durable.least, durable.greatest, i.no_shorter, i.no_longer) in
    ext_get_or 0 c d.reads long (λ k le.
    i.same k le (omega (arith, ap (λ (l : List ℕ). length l) durable.synced)) (durable.whole k (omega arith))
    ∙ ap (λ (l : List ℕ). get_or l k 0) durable.synced)

-- ---- a write

-- a file of these bytes, whose write of n bytes at a place a stop cuts short
pub record Torn (at n : ℕ) (old new : List ℕ) : Type 0 where
  pub before : take at new ≡ take at old
  pub after : at + n ≤ length old → drop (at + n) new ≡ drop (at + n) old
  pub no_shorter : length old ≤ length new
  pub no_longer : length new ≤ max (length old) (at + n)

-- what is pending behind a write, answered Ok or failed
pub record IsPending (at n : ℕ) (old new : Disk) : Type 0 where
  pub synced : new.synced ≡ old.synced
  pub torn : new.torn ≡ (at, n) ∷ old.torn
  pub least : new.least ≡ old.least
  pub greatest : new.greatest ≡ max old.greatest (at + n)

pub written_pending : (at : ℕ) (chunk : List ℕ) (d : Disk) → IsPending at (length chunk) d (written at chunk d)
written_pending at chunk d = record { synced = refl; torn = refl; least = refl; greatest = refl }

pub part_pending : (at n : ℕ) (old new : Disk) → IsPartWritten at n old new → IsPending at n old new
part_pending at n old new p =
    record { synced = p.synced; torn = p.torn; least = p.least; greatest = p.greatest }

module _ (at n : ℕ) (old new : Disk) (durable : IsDurable old) (pending : IsPending at n old new)
    (fits : at ≤ length old.reads) where
  outside : (c : List ℕ) → IsImage new c → (k : ℕ) → k < length c → k < length old.reads
      → ((at ≤ k) × (k < at + n) → ⊥) → get_or c k 0 ≡ get_or old.reads k 0
  outside c i k in_image in_file not_written =
      let not_torn : IsTorn new.torn k → ⊥ = λ torn. ⊎_elim not_written (durable.whole k in_file)
      (subst (λ (l : List (ℕ × ℕ)). IsTorn l k) pending.torn torn) in
      let known : new.synced ≡ old.reads = pending.synced ∙ durable.synced in
      i.same k in_image (omega (arith, ap (λ (l : List ℕ). length l) known)) not_torn
      ∙ ap (λ (l : List ℕ). get_or l k 0) known

  pub torn_image : (c : List ℕ) → IsImage new c → Torn at n old.reads c
  torn_image c i =
      let short : length old.reads ≤ length c = omega (arith, pending.least, durable.least, i.no_shorter) in
      let long : length c ≤ max (length old.reads) (at + n) =
      omega (arith, pending.greatest, durable.greatest, i.no_longer) in
      record {
        before = ext_get_or 0 (take at c) (take at old.reads)
            (omega (arith, length-take at c, length-take at old.reads))
            (λ k le. let low : k < at = omega (arith, length-take at c) in
            get_or-take at c k 0 low ∙ outside c i k (omega arith) (omega arith) (λ w. omega (arith, w.0))
            ∙ sym (get_or-take at old.reads k 0 low));
        after = λ ends. ext_get_or 0 (drop (at + n) c) (drop (at + n) old.reads)
            (omega (arith, length-drop (at + n) c, length-drop (at + n) old.reads))
            (λ k le. let low : at + n + k < length c = omega (arith, length-drop (at + n) c) in
            get_or-drop (at + n) c k 0 ∙ outside c i (at + n + k) low (omega arith) (λ w. omega (arith, w.1))
            ∙ sym (get_or-drop (at + n) old.reads k 0));
        no_shorter = short;
        no_longer = long;
      }

-- ---- a cut

-- what is pending behind a cut, answered Ok or failed
pub record IsShorter (len : ℕ) (old new : Disk) : Type 0 where
  pub synced : new.synced ≡ old.synced
  pub torn : new.torn ≡ old.torn
  pub least : new.least ≡ min old.least len
  pub greatest : new.greatest ≡ old.greatest

pub cut_shorter : (len : ℕ) (d : Disk) → IsShorter len d (cut_off len d)
cut_shorter len d = record { synced = refl; torn = refl; least = refl; greatest = refl }

pub part_shorter : (len : ℕ) (old new : Disk) → IsPartCut len old new → IsShorter len old new
part_shorter len old new p =
    record { synced = p.synced; torn = p.torn; least = p.least; greatest = p.greatest }

-- a cut leaves a front of the file, no shorter than what it asked for
pub cut_image : (len : ℕ) (old new : Disk) → IsDurable old → IsShorter len old new → len ≤ length old.reads
    → (c : List ℕ) → IsImage new c → (len ≤ length c) × (c ≡ take (length c) old.reads)
cut_image len old new durable shorter fits c i =
    let short : len ≤ length c = omega (arith, shorter.least, durable.least, i.no_shorter) in
    let long : length c ≤ length old.reads = omega (arith, shorter.greatest, durable.greatest, i.no_longer) in
    let known : new.synced ≡ old.reads = shorter.synced ∙ durable.synced in (
      short,
      ext_get_or 0 c (take (length c) old.reads) (omega (arith, length-take (length c) old.reads)) (λ k le.
          i.same k le (omega (arith, ap (λ (l : List ℕ). length l) known)) (λ torn. durable.whole k (omega arith)
          (subst (λ (l : List (ℕ × ℕ)). IsTorn l k) shorter.torn torn))
          ∙ ap (λ (l : List ℕ). get_or l k 0) known ∙ sym (get_or-take (length c) old.reads k 0 le)),
    )
