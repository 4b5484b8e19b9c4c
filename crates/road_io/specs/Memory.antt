-- What a source and a site in memory hold, and what a call makes of it.
use Rattle.std.specs.Prelude.{◌≡◌, ◌⊎◌, ℕ, ◌<◌, List, [], ◌∷◌, ◌++◌, length, drop, Bool, false, true}
use Rattle.std.specs.Prelude.{Contains, Result, Ok, Err, Option, None, Some, Vec}
use Rattle.std.specs.declared.alloc.Global.{Global}
use Rattle.road_io.specs.declared.outside.Failed.{Failed}
use Rattle.road_io.specs.declared.outside.Which.{Which}
use Rattle.road_io.specs.declared.outside.Which.TheVariants.{A, B}
use Rattle.road_io.specs.declared.entries.Call.{Call}
use Rattle.road_io.specs.declared.entries.Entry.{Entry}
use Rattle.road_io.specs.Told.{one_more}
use Rattle.road_io.specs.Outside.{Outside}
use Rattle.road_io.specs.Replay.{starting, replay}

-- ---- a source

-- The bytes left; the numbers of the reads that are to fail, counted from 0; how many reads there were, and how many of
-- them failed.
pub record SourceState : Type 0 where
  pub left : List ℕ
  pub fails : List ℕ
  pub reads : ℕ
  pub faults : ℕ

-- before the first read
abbrev pub starting_source : List ℕ → List ℕ → SourceState
starting_source bytes fails = record { left = bytes; fails = fails; reads = 0; faults = 0 }

-- the next read is to fail
abbrev pub ReadIsToFail : SourceState → Type 0
ReadIsToFail s = Contains s.fails s.reads

-- A read counts itself. It takes the bytes that it gives, or counts its fault.
abbrev pub after_read : Result ℕ Failed → SourceState → SourceState
after_read (Ok n) s = record s { left = drop n s.left; reads = one_more s.reads }
after_read (Err e) s = record s { reads = one_more s.reads; faults = one_more s.faults }

-- ---- a site

-- The bytes of both files at first; the record of its calls; the numbers of the calls that are to fail, counted from 0
-- over the calls that found memory; how many calls failed.
pub record SiteState : Type 0 where
  pub opening_a : List ℕ
  pub opening_b : List ℕ
  pub calls : List Entry
  pub fails : List ℕ
  pub faults : ℕ

-- before the first call
abbrev pub starting_site : List ℕ → List ℕ → List ℕ → SiteState
starting_site a b fails = record { opening_a = a; opening_b = b; calls = []; fails = fails; faults = 0 }

-- what a site in memory tells: what the record of its calls leads to
abbrev pub outside_of : SiteState → Outside
outside_of s = replay s.calls (starting s.opening_a s.opening_b)

-- the next call that finds memory is to fail
abbrev pub CallIsToFail : SiteState → Type 0
CallIsToFail s = Contains s.fails (length s.calls)

-- one call more in the record
abbrev pub entered : Call → Bool → List Entry → List Entry
entered call failed calls = calls ++ record { call = call; failed = failed } ∷ []

-- a call that answered Ok
abbrev pub after_call : Call → SiteState → SiteState
after_call call s = record s { calls = entered call false s.calls }

-- A call failed. Either it was to fail, and is recorded; or it found no memory: then it has no number and isn't
-- recorded. Each call takes its memory first, and no clause says when there is none, so any call may fail so.
abbrev pub FailsCall : Call → SiteState → SiteState → Type 0
FailsCall call s t =
    (CallIsToFail s × (t ≡ record s { calls = entered call true s.calls; faults = one_more s.faults }))
    ⊎ (t ≡ record s { faults = one_more s.faults })

-- both files and the output read as before
pub record ReadsAlike (before now : Outside) : Type 0 where
  pub a : now.a.reads ≡ before.a.reads
  pub b : now.b.reads ≡ before.b.reads
  pub output : now.output ≡ before.output

-- ---- what a site in memory keeps beside its record

-- the record of the calls and for how many it has room, the numbers of those that are to fail, and how many failed
pub record LogState : Type 0 where
  pub calls : List Entry
  pub room : ℕ
  pub fails : List ℕ
  pub faults : ℕ

-- there is room for one more call
abbrev pub HasRoom : LogState → Type 0
HasRoom l = length l.calls < l.room

-- the same but for the room
abbrev pub with_room : ℕ → LogState → LogState
with_room room l = record l { room = room }

-- a call that found no memory is counted, and not recorded
abbrev pub without_memory : LogState → LogState
without_memory l = record l { faults = one_more l.faults }

-- a call that answered Ok
abbrev pub noted : Call → LogState → LogState
noted call l = record l { calls = entered call false l.calls }

-- a call that was to fail
abbrev pub noted_failed : Call → LogState → LogState
noted_failed call l = record l { calls = entered call true l.calls; faults = one_more l.faults }

-- a call failed: it was to fail, or found no memory
abbrev pub FailsNote : Call → LogState → LogState → Type 0
FailsNote call l m =
    (Contains l.fails (length l.calls) × (m ≡ with_room m.room (noted_failed call l)))
    ⊎ (m ≡ with_room m.room (without_memory l))

-- the bytes of a file at first, and as it reads now
pub record FileState : Type 0 where
  pub opening : List ℕ
  pub reads : List ℕ

-- the bytes of a file at first: a copy, where a call changed it
abbrev pub opening_of : Option (Vec ℕ Global) → List ℕ → List ℕ
opening_of None reads = reads
opening_of (Some copy) reads = copy.items

pub record FilesState : Type 0 where
  pub a : FileState
  pub b : FileState

-- before the first call
abbrev pub starting_files : List ℕ → List ℕ → FilesState
starting_files a b = record { a = record { opening = a; reads = a }; b = record { opening = b; reads = b } }

abbrev pub bytes_of : FilesState → Which → List ℕ
bytes_of f A = f.a.reads
bytes_of f B = f.b.reads

-- the same file with other bytes
abbrev pub with_bytes : List ℕ → FileState → FileState
with_bytes bytes f = record f { reads = bytes }

-- the same files, but for the bytes of one
abbrev pub with_file : Which → List ℕ → FilesState → FilesState
with_file A bytes f = record f { a = with_bytes bytes f.a }
with_file B bytes f = record f { b = with_bytes bytes f.b }

-- the files and the output read so
pub record IsKept (f : FilesState) (output : List ℕ) (o : Outside) : Type 0 where
  pub file_a : f.a.reads ≡ o.a.reads
  pub file_b : f.b.reads ≡ o.b.reads
  pub put : output ≡ o.output
