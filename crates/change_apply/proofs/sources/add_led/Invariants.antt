use Rattle.std.proofs.Common.{take}
use Rattle.graph_blocks.specs.Lent.{map_of}
use Rattle.change_apply.specs.Rebuilding.{pieces_at}
use Rattle.change_apply.specs.Sourcing.{IsLedFrom}
use Rattle.change_apply.specs.Standing.{built_in}
use Rattle.change_apply.proofs.SourcedArcs.{AddsOnly, AreAlike, Keeps}
use Rattle.change_apply.proofs.sources.add_led.Given as goal

-- the blocks of the ways so far list the same arcs to all others
abbrev pub invariant-loop-way : goal.invariant-loop-way
invariant-loop-way l = record {
  keeps : Keeps l.fn.led.items l.led.items;
  only : AddsOnly l.fn.led.items l.led.items
      (IsLedFrom (pieces_at (built_in l.before) (map_of l.before.blocks.now))
      (pieces_at (built_in l.after) (map_of l.after.blocks.now)) l.ways);
  alike : AreAlike (pieces_at (built_in l.before) (map_of l.before.blocks.now))
      (pieces_at (built_in l.after) (map_of l.after.blocks.now)) (take l.way-index l.ways) l.led.items;
}
