-- What a site tells of the outside: its two files and the output under one clock, and what a stop may leave.
use Rattle.std.specs.Prelude.{◌≡◌, ◌⊎◌, ℕ, ◌≤◌, List, [], ◌∷◌, ◌++◌, length}
use Rattle.std.specs.Io.{StartsWith}
use Rattle.road_io.specs.declared.outside.Which.{Which}
use Rattle.road_io.specs.declared.outside.Which.TheVariants.{A, B}
use Rattle.road_io.specs.Disk.{Disk, IsImage, IsSoundDisk}

-- A span of time, in a call or between two. A stop in it leaves an image of each of these disks, and an output that
-- begins with `from` and that `to` begins with.
pub record Moment : Type 0 where
  pub a : Disk
  pub b : Disk
  pub from : List ℕ
  pub to : List ℕ

-- what a stop leaves: the bytes of both files, and the output
pub record Left : Type 0 where
  pub a : List ℕ
  pub b : List ℕ
  pub out : List ℕ

-- a stop in this span may leave this
pub record IsLeft (m : Moment) (left : Left) : Type 0 where
  pub a : IsImage m.a left.a
  pub b : IsImage m.b left.b
  pub no_less : StartsWith left.out m.from
  pub no_more : StartsWith m.to left.out

-- The disks of both files; what has been put so far, the first byte first; and the spans of the calls so far, the last
-- one first.
pub record Outside : Type 0 where
  pub a : Disk
  pub b : Disk
  pub output : List ℕ
  pub past : List Moment

-- ---- what a stop may leave

-- the time: how many calls there were
abbrev pub clock : Outside → ℕ
clock o = length o.past

-- the span until the next call
abbrev pub present : Outside → Moment
present o = record { a = o.a; b = o.b; from = o.output; to = o.output }

-- One of these spans, the last one first and numbered from 0 on, has a number from `since` on, and a stop in it may
-- leave this.
abbrev pub LeftIn : List Moment → ℕ → Left → Type 0
LeftIn [] since left = ⊥
LeftIn (m ∷ past) since left = ((since ≤ length past) × IsLeft m left) ⊎ LeftIn past since left

-- at some moment not before the time `since`, in a call or between two, a stop may leave this
abbrev pub MayLeave : Outside → ℕ → Left → Type 0
MayLeave o since left = LeftIn (present o ∷ o.past) since left

-- ---- the two files

abbrev pub disk : Outside → Which → Disk
disk o A = o.a
disk o B = o.b

abbrev pub other : Which → Which
other A = B
other B = A

abbrev pub image_of : Left → Which → List ℕ
image_of left A = left.a
image_of left B = left.b

-- the span of a call on one file in which a stop leaves an image of this disk for it
abbrev pub moment : Which → Disk → Outside → Moment
moment A d o = record (present o) { a = d }
moment B d o = record (present o) { b = d }

-- ---- what a call makes of it

-- a call on one file: in it a stop leaves an image of `during`, and behind it the disk is `after`
abbrev pub changed : Which → Disk → Disk → Outside → Outside
changed A during after o = record o { a = after; past = moment A during o ∷ o.past }
changed B during after o = record o { b = after; past = moment B during o ∷ o.past }

-- a call that changes nothing
abbrev pub stays : Outside → Outside
stays o = record o { past = present o ∷ o.past }

-- a put of this chunk
abbrev pub extended : List ℕ → Outside → Outside
extended chunk o = record o {
  output = o.output ++ chunk;
  past = record (present o) { to = o.output ++ chunk } ∷ o.past;
}

-- ---- what holds of some calls, one behind another

-- From one outside up to a later one a stop leaves what has P. A stop since an earlier time leaves that, or what could
-- be left before the first.
pub record LeavesOnly (before now : Outside) (P : Left → Type 0) : Type 0 where
  pub later : clock before ≤ clock now
  pub each : (left : Left) → MayLeave now (clock before) left → P left
  pub earlier : (since : ℕ) (left : Left) → since ≤ clock before → MayLeave now since left
      → MayLeave before since left ⊎ P left

-- a stop leaves what has Q of this file, what it could leave of the other one, and this output
pub record LeavesFile (file : Which) (Q : List ℕ → Type 0) (o : Outside) (left : Left) : Type 0 where
  pub image : Q (image_of left file)
  pub other : IsImage (disk o (other file)) (image_of left (other file))
  pub out : left.out ≡ o.output

-- calls that changed nothing
pub record Quiet (before now : Outside) : Type 0 where
  pub same_a : now.a ≡ before.a
  pub same_b : now.b ≡ before.b
  pub output : now.output ≡ before.output
  pub only : LeavesOnly before now (IsLeft (present before))

-- each file as it reads is one of its images
pub record IsSound (o : Outside) : Type 0 where
  pub disk_a : IsSoundDisk o.a
  pub disk_b : IsSoundDisk o.b
