-- An interrupted read takes nothing, and the buffer keeps its length.
use Rattle.std.proofs.Common.{◌≡◌, length}
use Rattle.std.specs.Io.KnownBytes.{Keeps}
use Rattle.road_io.proofs.reading.read_again.Given as goal

abbrev pub invariant-reads : goal.invariant-reads
invariant-reads g l = (length l.buf ≡ length l.initial.buf)
    × Keeps (g.R.Read.remaining l.initial.reader) (g.R.Read.remaining l.reader)
