-- A file as it reads stays one of its images.
use Rattle.std.proofs.Common.{◌≡◌, inl, inr, ⊎_elim, ℕ, ◌+◌, ◌-◌, ◌<◌, ◌≤◌, max, min, List, [], ◌∷◌, ◌++◌, length}
use Rattle.std.proofs.Common.{get_or, take, drop, Bool, true, false, if◌then◌else◌, refl, ◌∙◌, ap, arith, length-append}
use Rattle.std.proofs.lemmas.List.{length-take, length-take-le, length-drop, get_or-take, get_or-drop}
use Rattle.std.proofs.lemmas.List.{get_or_append_left, get_or-append_right}
use Rattle.std.proofs.lemmas.Bool.{cases_lt}
use Rattle.road_io.specs.declared.outside.Which.TheVariants.{A, B}
use Rattle.road_io.specs.declared.entries.Call.{Call}
use Rattle.road_io.specs.declared.entries.Call.TheVariants.{Put, FileLen, ReadAt, WriteAt, Cut, Sync}
use Rattle.road_io.specs.declared.entries.Entry.{Entry}
use Rattle.road_io.specs.Disk.{Disk, IsImage, IsSoundDisk, settled, written, overwritten, cut_off}
use Rattle.road_io.specs.Outside.{Outside, IsSound}
use Rattle.road_io.specs.Replay.{tried_write, tried_cut, write_done, answered, refused, after, replay, starting}

pub settled_image : (bytes : List ℕ) → IsImage (settled bytes) bytes
settled_image bytes = record { no_shorter = omega arith; no_longer = omega arith; same = λ k a b whole. refl }

-- ---- a cut and a write

cut_image : (len : ℕ) (d : Disk) → IsImage d d.reads → IsImage (cut_off len d) (take len d.reads)
cut_image len d i =
    let size : length (take len d.reads) ≡ min len (length d.reads) = length-take len d.reads in
    record {
      no_shorter = omega (arith, i.no_shorter, size);
      no_longer = omega (arith, i.no_longer, size);
      same = λ k a b whole. get_or-take len d.reads k 0 (omega (arith, size)) ∙ i.same k (omega (arith, size)) b whole;
    }

module _ (at : ℕ) (chunk bytes : List ℕ) (fits : at ≤ length bytes) where
  pub overwritten_length : length (overwritten at chunk bytes) ≡ max (length bytes) (at + length chunk)
  overwritten_length =
      omega (
        arith,
        length-append (take at bytes ++ chunk) (drop (at + length chunk) bytes),
        length-append (take at bytes) chunk,
        length-take-le at bytes fits,
        length-drop (at + length chunk) bytes,
      )

  front_length : length (take at bytes ++ chunk) ≡ at + length chunk
  front_length = omega (arith, length-append (take at bytes) chunk, length-take-le at bytes fits)

  below : (k : ℕ) → k < at → get_or (overwritten at chunk bytes) k 0 ≡ get_or bytes k 0
  below k lt =
      get_or_append_left (take at bytes ++ chunk) (drop (at + length chunk) bytes) 0 k (omega (arith, front_length))
      ∙ get_or_append_left (take at bytes) chunk 0 k (omega (arith, length-take-le at bytes fits))
      ∙ get_or-take at bytes k 0 lt

  above : (k : ℕ) → at + length chunk ≤ k → get_or (overwritten at chunk bytes) k 0 ≡ get_or bytes k 0
  above k le =
      get_or-append_right (take at bytes ++ chunk) (drop (at + length chunk) bytes) (at + length chunk) k 0
      front_length le
      ∙ get_or-drop (at + length chunk) bytes (k - (at + length chunk)) 0
      ∙ ap (λ n. get_or bytes n 0) (omega arith)

written_image : (at : ℕ) (chunk : List ℕ) (d : Disk) → at ≤ length d.reads → IsImage d d.reads
    → IsImage (written at chunk d) (overwritten at chunk d.reads)
written_image at chunk d fits i =
    let size = overwritten_length at chunk d.reads fits in
    record {
      no_shorter = omega (arith, size, i.no_shorter);
      no_longer = omega (arith, size, i.no_longer);
      same = λ k a b whole. ⊎_elim
          (λ lt. below at chunk d.reads fits k lt ∙ i.same k (omega (arith, lt)) b (λ torn. whole (inr torn)))
          (λ ge. ⊎_elim
          (λ lt. absurd (whole (inl (ge, lt))))
          (λ past. above at chunk d.reads fits k past
          ∙ i.same k (omega (arith, a, past, size)) b (λ torn. whole (inr torn)))
          (cases_lt k (at + length chunk)))
          (cases_lt k at);
    }

-- ---- each call

pub settled_sound : (bytes : List ℕ) → IsSoundDisk (settled bytes)
settled_sound bytes = record { image = settled_image bytes; low = omega arith; high = omega arith }

pub tried_write_sound : (at n : ℕ) (d : Disk) → IsSoundDisk d → IsSoundDisk (tried_write at n d)
tried_write_sound at n d s = record {
  image = record {
    no_shorter = s.image.no_shorter;
    no_longer = omega (arith, s.image.no_longer);
    same = λ k a b whole. s.image.same k a b (λ torn. whole (inr torn));
  };
  low = s.low;
  high = omega (arith, s.high);
}

pub tried_cut_sound : (len : ℕ) (d : Disk) → IsSoundDisk d → IsSoundDisk (tried_cut len d)
tried_cut_sound len d s = record {
  image = record {
    no_shorter = omega (arith, s.image.no_shorter);
    no_longer = s.image.no_longer;
    same = s.image.same;
  };
  low = omega (arith, s.low);
  high = s.high;
}

pub written_sound : (at : ℕ) (chunk : List ℕ) (d : Disk) → at ≤ length d.reads → IsSoundDisk d
    → IsSoundDisk (written at chunk d)
written_sound at chunk d fits s =
    record { image = written_image at chunk d fits s.image; low = s.low; high = omega (arith, s.high) }

pub cut_off_sound : (len : ℕ) (d : Disk) → IsSoundDisk d → IsSoundDisk (cut_off len d)
cut_off_sound len d s = record { image = cut_image len d s.image; low = omega (arith, s.low); high = s.high }

write_done_sound : (at : ℕ) (chunk : List ℕ) (d : Disk) → IsSoundDisk d → IsSoundDisk (write_done at chunk d)
write_done_sound at chunk d s = written_sound (min at (length d.reads)) chunk d (omega arith) s

-- ---- a record of calls

answered_sound : (call : Call) (o : Outside) → IsSound o → IsSound (answered call o)
answered_sound (Put chunk) o s = record { disk_a = s.disk_a; disk_b = s.disk_b }
answered_sound (FileLen file) o s = record { disk_a = s.disk_a; disk_b = s.disk_b }
answered_sound (ReadAt file at len) o s = record { disk_a = s.disk_a; disk_b = s.disk_b }
answered_sound (WriteAt A at chunk) o s =
    record { disk_a = write_done_sound at chunk o.a s.disk_a; disk_b = s.disk_b }
answered_sound (WriteAt B at chunk) o s =
    record { disk_a = s.disk_a; disk_b = write_done_sound at chunk o.b s.disk_b }
answered_sound (Cut A len) o s = record { disk_a = cut_off_sound len o.a s.disk_a; disk_b = s.disk_b }
answered_sound (Cut B len) o s = record { disk_a = s.disk_a; disk_b = cut_off_sound len o.b s.disk_b }
answered_sound (Sync A) o s = record { disk_a = settled_sound o.a.reads; disk_b = s.disk_b }
answered_sound (Sync B) o s = record { disk_a = s.disk_a; disk_b = settled_sound o.b.reads }

refused_sound : (call : Call) (o : Outside) → IsSound o → IsSound (refused call o)
refused_sound (Put chunk) o s = record { disk_a = s.disk_a; disk_b = s.disk_b }
refused_sound (FileLen file) o s = record { disk_a = s.disk_a; disk_b = s.disk_b }
refused_sound (ReadAt file at len) o s = record { disk_a = s.disk_a; disk_b = s.disk_b }
refused_sound (WriteAt A at chunk) o s =
    record { disk_a = tried_write_sound at (length chunk) o.a s.disk_a; disk_b = s.disk_b }
refused_sound (WriteAt B at chunk) o s =
    record { disk_a = s.disk_a; disk_b = tried_write_sound at (length chunk) o.b s.disk_b }
refused_sound (Cut A len) o s = record { disk_a = tried_cut_sound len o.a s.disk_a; disk_b = s.disk_b }
refused_sound (Cut B len) o s = record { disk_a = s.disk_a; disk_b = tried_cut_sound len o.b s.disk_b }
refused_sound (Sync file) o s = record { disk_a = s.disk_a; disk_b = s.disk_b }

either_sound : (call : Call) (failed : Bool) (o : Outside) → IsSound o
    → IsSound (if failed then refused call o else answered call o)
either_sound call true o s = refused_sound call o s
either_sound call false o s = answered_sound call o s

after_sound : (e : Entry) (o : Outside) → IsSound o → IsSound (after e o)
after_sound e o s = either_sound e.call e.failed o s

all_sound : (es : List Entry) (o : Outside) → IsSound o → IsSound (replay es o)
all_sound [] o s = s
all_sound (e ∷ es) o s = all_sound es (after e o) (after_sound e o s)

pub replay_sound : (es : List Entry) (a b : List ℕ) → IsSound (replay es (starting a b))
replay_sound es a b = all_sound es (starting a b) (record { disk_a = settled_sound a; disk_b = settled_sound b })
