use Rattle.std.proofs.Common.{◌≡◌, Contains, take}
use Rattle.road_base.specs.declared.ids.WayId.{WayId}
use Rattle.graph_blocks.specs.Lent.{map_of}
use Rattle.change_apply.specs.Rebuilding.{listed, pieces_at}
use Rattle.change_apply.specs.Standing.{built_in}
use Rattle.change_apply.proofs.ComparedPieces.{AreSame}
use Rattle.change_apply.proofs.altering.altered.Given as goal

-- of the ways so far, those that aren't among the altered ones list the same pieces, and nothing else is among these
abbrev pub invariant-loop-way : goal.invariant-loop-way
invariant-loop-way l = record {
  only : (w : WayId) → Contains l.altered.items w → Contains l.ways w;
  same : AreSame (λ w. listed (pieces_at (built_in l.before) (map_of l.before.blocks.now) w)
      ≡ listed (pieces_at (built_in l.after) (map_of l.after.blocks.now) w)) (take l.way-index l.ways) l.altered.items;
}
