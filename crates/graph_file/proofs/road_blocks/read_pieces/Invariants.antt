use Rattle.road_base.specs.Bytes.{joined}
use Rattle.road_model.specs.Format.{piece_bytes}
use Rattle.spelled_bytes.specs.Spelling.{AreSoMany}
use Rattle.spelled_bytes.specs.Reading.{Begins}
use Rattle.graph_file.specs.GraphReading.{IsPieceAt}
use Rattle.graph_file.proofs.road_blocks.read_pieces.Given as goal

-- the bytes begin with what was read so far
abbrev pub invariant-loop : goal.invariant-loop
invariant-loop g l = Begins (joined (piece_bytes g.G.Grammar.sourced))
    (AreSoMany (IsPieceAt g.G.Grammar.sourced l.way) l.counter) l.bytes l.items.items l.rest
