-- What a file reads as behind some calls is among what a stop leaves.
use Rattle.std.proofs.Common.{inl, ℕ, List, Option, None, Some, IfSome, length, arith}
use Rattle.std.proofs.lemmas.List.{take_all}
use Rattle.std.specs.Io.{StartsWith}
use Rattle.road_io.specs.declared.outside.Which.{Which}
use Rattle.road_io.specs.declared.outside.Which.TheVariants.{A, B}
use Rattle.road_io.specs.Told.{Told}
use Rattle.road_io.specs.Outside.{Outside, Left, IsLeft, IsSound, LeavesOnly, LeavesFile, disk, present}

pub starts_all : (x : List ℕ) → StartsWith x x
starts_all x = take_all (length x) x (omega arith)

abbrev as_read : Outside → Left
as_read v = record { a = v.a.reads; b = v.b.reads; out = v.output }

read_left : (v : Outside) → IsSound v → IsLeft (present v) (as_read v)
read_left v sound = record {
  a = sound.disk_a.image;
  b = sound.disk_b.image;
  no_less = starts_all v.output;
  no_more = starts_all v.output;
}

pub reads_so : (file : Which) (Q : List ℕ → Type 0) (w v : Outside) → IsSound v
    → LeavesOnly w v (LeavesFile file Q w) → Q (disk v file).reads
reads_so A Q w v sound only = (only.each (as_read v) (inl (only.later, read_left v sound))).image
reads_so B Q w v sound only = (only.each (as_read v) (inl (only.later, read_left v sound))).image

-- what is told, with what holds of what is told behind it
pub told_behind : {W : Type 0} (x y : Option W) (P : W → Type 0) (R S : W → W → Type 0) → IfSome y P → Told R x y
    → ((w v : W) → P v → R w v → S w v) → Told S x y
told_behind None None P R S holds told f = tt
told_behind None (Some v) P R S holds told f = absurd told
told_behind (Some w) None P R S holds told f = absurd told
told_behind (Some w) (Some v) P R S holds told f = f w v holds told
