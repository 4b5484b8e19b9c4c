use Rattle.std.proofs.Common.{◌≤◌, ◌+◌, take}
use Rattle.compiled_graph.specs.Building.{HasBlocksOf}
use Rattle.compiled_graph.proofs.blocks.write_blocks.Given as goal

-- the blocks of the ways so far are written, and no more were built than there are such ways
abbrev pub invariant-loop-way : goal.invariant-loop-way
invariant-loop-way g l = record {
  written : HasBlocksOf l.builder.world (g.P.Profile.rules l.builder.profile) (take l.way-index l.ways) l.writer;
  built : l.steps ≤ l.initial.steps + l.way-index;
}
