-- What a record of calls leads to, where each call is done at once, and one that fails does nothing.
use Rattle.std.specs.Prelude.{ℕ, ◌+◌, max, min, List, [], ◌∷◌, length, if◌then◌else◌}
use Rattle.road_io.specs.declared.outside.Which.{Which}
use Rattle.road_io.specs.declared.entries.Call.{Call}
use Rattle.road_io.specs.declared.entries.Call.TheVariants.{Put, FileLen, ReadAt, WriteAt, Cut, Sync}
use Rattle.road_io.specs.declared.entries.Entry.{Entry}
use Rattle.road_io.specs.Disk.{Disk, settled, written, cut_off}
use Rattle.road_io.specs.Outside.{Outside, disk, changed, stays, extended}

-- before the first call: both files on the disk, and no output
abbrev pub starting : List ℕ → List ℕ → Outside
starting a b = record { a = settled a; b = settled b; output = []; past = [] }

-- A write of n bytes that failed and did nothing. What a stop leaves there may be anything all the same.
abbrev pub tried_write : ℕ → ℕ → Disk → Disk
tried_write at n d = record d { torn = (at, n) ∷ d.torn; greatest = max d.greatest (at + n) }

-- A cut that failed and did nothing. A stop may leave the file cut all the same.
abbrev pub tried_cut : ℕ → Disk → Disk
tried_cut len d = record d { least = min d.least len }

-- a call on a file that is done at once
abbrev pub at_once : Which → Disk → Outside → Outside
at_once file d o = changed file d d o

-- A write that is done at once. A place past the file's end, which no call has, would stand for the end.
abbrev pub write_done : ℕ → List ℕ → Disk → Disk
write_done at chunk d = written (min at (length d.reads)) chunk d

-- after a call that answered Ok
abbrev pub answered : Call → Outside → Outside
answered (Put chunk) o = extended chunk o
answered (FileLen file) o = stays o
answered (ReadAt file at len) o = stays o
answered (WriteAt file at chunk) o = at_once file (write_done at chunk (disk o file)) o
answered (Cut file len) o = at_once file (cut_off len (disk o file)) o
answered (Sync file) o = changed file (disk o file) (settled (disk o file).reads) o

-- after a call that failed
abbrev pub refused : Call → Outside → Outside
refused (Put chunk) o = stays o
refused (FileLen file) o = stays o
refused (ReadAt file at len) o = stays o
refused (WriteAt file at chunk) o = at_once file (tried_write at (length chunk) (disk o file)) o
refused (Cut file len) o = at_once file (tried_cut len (disk o file)) o
refused (Sync file) o = stays o

-- after a call of a record
abbrev pub after : Entry → Outside → Outside
after e o = if e.failed then refused e.call o else answered e.call o

-- after these calls, the first of them first
abbrev pub replay : List Entry → Outside → Outside
replay [] o = o
replay (e ∷ es) o = replay es (after e o)
