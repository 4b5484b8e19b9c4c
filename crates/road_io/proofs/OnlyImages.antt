-- Nothing is pending exactly where a stop leaves what a read gives.
use Rattle.std.proofs.Common.{◌≡◌, ◌↔◌, ⊎_elim, ℕ, ◌+◌, ◌<◌, List, [], ◌∷◌, ◌++◌, length, get_or, set, take}
use Rattle.std.proofs.Common.{sym, ◌∙◌, ap, subst, arith, length-append}
use Rattle.std.proofs.lemmas.List.{length-take-le, length-set, ext_get_or, get_or-take, get_or-set_same}
use Rattle.std.proofs.lemmas.List.{get_or-set_other, get_or_append_left, get_or_at}
use Rattle.std.proofs.lemmas.Bool.{cases_lt, cases_eq}
use Rattle.road_io.specs.declared.outside.Which.{Which}
use Rattle.road_io.specs.declared.outside.Which.TheVariants.{A, B}
use Rattle.road_io.specs.Disk.{Disk, IsImage, IsTorn, IsDurable, IsSoundDisk}
use Rattle.road_io.specs.Outside.{Outside, disk, IsSound}
use Rattle.road_io.proofs.PendingImages.{only_image}

module _ (d : Disk) (is_sound : IsSoundDisk d) (only : (c : List ℕ) → IsImage d c → c ≡ d.reads) where
  not_shorter : d.least ≡ length d.reads
  not_shorter = ⊎_elim
      (λ lt. let long : length (take d.least d.reads) ≡ d.least =
      length-take-le d.least d.reads (omega (arith, lt)) in
      let e = only (take d.least d.reads) (record {
        no_shorter = omega (arith, long);
        no_longer = omega (arith, long, lt, is_sound.image.no_longer);
        same = λ k a b whole. get_or-take d.least d.reads k 0 (omega (arith, long))
            ∙ is_sound.image.same k (omega (arith, long, lt)) b whole;
      }) in
      absurd (omega (arith, ap (λ (l : List ℕ). length l) e, long, lt)))
      (λ ge. omega (arith, ge, is_sound.image.no_shorter)) (cases_lt d.least (length d.reads))

  not_longer : d.greatest ≡ length d.reads
  not_longer = ⊎_elim
      (λ lt. let x = get_or d.synced (length d.reads) 0 in
      let long : length (d.reads ++ x ∷ []) ≡ length d.reads + 1 = length-append d.reads (x ∷ []) in
      let e = only (d.reads ++ x ∷ []) (record {
        no_shorter = omega (arith, long, is_sound.image.no_shorter);
        no_longer = omega (arith, long, lt);
        same = λ k a b whole. ⊎_elim
            (λ below. get_or_append_left d.reads (x ∷ []) 0 k below ∙ is_sound.image.same k below b whole)
            (λ at. let is : k ≡ length d.reads = omega (arith, at, a, long) in
            get_or_at d.reads x [] 0 k (sym is) ∙ ap (λ (n : ℕ). get_or d.synced n 0) (sym is))
            (cases_lt k (length d.reads));
      }) in
      absurd (omega (arith, ap (λ (l : List ℕ). length l) e, long)))
      (λ ge. omega (arith, ge, is_sound.image.no_longer)) (cases_lt (length d.reads) d.greatest)

  not_torn : (k : ℕ) → k < length d.reads → IsTorn d.torn k → ⊥
  not_torn k lt torn =
      let x = get_or d.reads k 0 + 1 in
      let e = only (set d.reads k x) (record {
        no_shorter = omega (arith, length-set d.reads k x, is_sound.image.no_shorter);
        no_longer = omega (arith, length-set d.reads k x, is_sound.image.no_longer);
        same = λ j a b whole. ⊎_elim
            (λ is. absurd (whole (subst (λ (n : ℕ). IsTorn d.torn n) (sym is) torn)))
            (λ ne. get_or-set_other d.reads k j x 0 ne
            ∙ is_sound.image.same j (omega (arith, a, length-set d.reads k x)) b whole)
            (cases_eq j k);
      }) in
      omega (arith, ap (λ (l : List ℕ). get_or l k 0) e, get_or-set_same d.reads k x 0 lt)

  pub durable_if_only : IsDurable d
  durable_if_only =
      let long : length d.synced ≡ length d.reads =
      omega (arith, not_shorter, not_longer, is_sound.low, is_sound.high) in
      record {
        synced = sym (ext_get_or 0 d.reads d.synced (sym long)
            (λ k lt. is_sound.image.same k lt (omega (arith, lt, long)) (not_torn k lt)));
        least = not_shorter;
        greatest = not_longer;
        whole = not_torn;
      }

pub sound_disk : (file : Which) (o : Outside) → IsSound o → IsSoundDisk (disk o file)
sound_disk A o s = s.disk_a
sound_disk B o s = s.disk_b

pub durable_exactly : (d : Disk) → IsSoundDisk d → IsDurable d ↔ ((c : List ℕ) → IsImage d c → c ≡ d.reads)
durable_exactly d s = (only_image d, durable_if_only d s)
