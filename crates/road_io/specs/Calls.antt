-- What each call does to what is told.
use Rattle.std.specs.Prelude.{◌≡◌, ◌⊎◌, ◌↔◌, ℕ, ◌≤◌, List, [], ◌++◌, length, take, drop}
use Rattle.std.specs.Prelude.{Result, Ok, Err}
use Rattle.road_io.specs.declared.outside.Failed.{Failed}
use Rattle.road_io.specs.declared.outside.Which.{Which}
use Rattle.road_io.specs.Disk.{Disk, settled, written, IsPartWritten, cut_off, IsPartCut}
use Rattle.road_io.specs.Outside.{Outside, disk, changed, stays, extended}

-- ---- the call of a source

-- The first n bytes of what is left stand first in the buffer, whose others are as before. There are none exactly where
-- there is no room, or nothing left.
pub record Gives (n : ℕ) (left old new : List ℕ) : Type 0 where
  pub enough : n ≤ length left
  pub bytes : new ≡ take n left ++ drop n old
  pub none : n ≡ 0 ↔ ((old ≡ []) ⊎ (left ≡ []))

-- A read takes from what is left the bytes that it gives. One that failed takes none.
abbrev pub Takes : List ℕ → List ℕ → Result ℕ Failed → List ℕ → List ℕ → Type 0
Takes old new (Ok n) before after = Gives n before old new × (after ≡ drop n before)
Takes old new (Err e) before after = after ≡ before

-- ---- the calls of a site

-- a call that failed did nothing at all, or took its time
abbrev pub Idles : Outside → Outside → Type 0
Idles before now = (now ≡ before) ⊎ (now ≡ stays before)

-- The chunk stands behind the output. A put that failed did nothing, or put a front of the chunk.
abbrev pub Puts : List ℕ → Result (Unit {0}) Failed → Outside → Outside → Type 0
Puts chunk (Ok u) before now = now ≡ extended chunk before
Puts chunk (Err e) before now = (now ≡ before) ⊎ ((n : ℕ) × (now ≡ extended (take n chunk) before))

-- the length of a file, 0 where it isn't there
abbrev pub TellsLen : Which → Result ℕ Failed → Outside → Outside → Type 0
TellsLen file (Ok n) before now = (n ≡ length (disk before file).reads) × (now ≡ stays before)
TellsLen file (Err e) before now = Idles before now

-- Bytes of a file from a place on stand first in the buffer, whose others are as before. There are none exactly where
-- there is no room, or the place is at or past the file's end.
abbrev pub GivesBytes : Which → ℕ → List ℕ → List ℕ → Result ℕ Failed → Outside → Outside → Type 0
GivesBytes file at old new (Ok n) before now =
    Gives n (drop at (disk before file).reads) old new × (now ≡ stays before)
GivesBytes file at old new (Err e) before now = Idles before now

-- A chunk stands in its place. A write that failed did nothing, or changed some bytes of its range.
abbrev pub Writes : Which → ℕ → List ℕ → Result (Unit {0}) Failed → Outside → Outside → Type 0
Writes file at chunk (Ok u) before now =
    now ≡ changed file (written at chunk (disk before file)) (written at chunk (disk before file)) before
Writes file at chunk (Err e) before now =
    (now ≡ before)
    ⊎ ((d : Disk) × IsPartWritten at (length chunk) (disk before file) d × (now ≡ changed file d d before))

-- The file has this length, no greater than before. A cut that failed did nothing, or changed some bytes behind its
-- length.
abbrev pub Cuts : Which → ℕ → Result (Unit {0}) Failed → Outside → Outside → Type 0
Cuts file len (Ok u) before now =
    now ≡ changed file (cut_off len (disk before file)) (cut_off len (disk before file)) before
Cuts file len (Err e) before now =
    (now ≡ before) ⊎ ((d : Disk) × IsPartCut len (disk before file) d × (now ≡ changed file d d before))

-- Nothing is pending on the file any more. In the call a stop leaves what it could leave before.
abbrev pub Syncs : Which → Result (Unit {0}) Failed → Outside → Outside → Type 0
Syncs file (Ok u) before now = now ≡ changed file (disk before file) (settled (disk before file).reads) before
Syncs file (Err e) before now = Idles before now
