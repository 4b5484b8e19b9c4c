use Rattle.std.proofs.Common.{◌≡◌, ◌++◌, List, map}
use Rattle.std.specs.FinMap.{find}
use Rattle.road_base.specs.declared.ids.WayId.{WayId}
use Rattle.road_model.specs.declared.blocks.Block.{Block}
use Rattle.road_model.specs.Orders.{way_cmp}
use Rattle.layered_maps.specs.Layers.{Rise}
use Rattle.layered_maps.specs.Maps.{change_pair, over}
use Rattle.graph_blocks.specs.Lent.{map_of}
use Rattle.change_apply.specs.Rebuilding.{block_at, way_of}
use Rattle.change_apply.specs.Standing.{built_in}
use Rattle.change_apply.proofs.ChangedBlocks.{AreAmong, ArePlaced}
use Rattle.change_apply.proofs.changes.changes_over.Given as goal

-- the changes of the blocks so far leave these
abbrev pub invariant-loop-block : goal.invariant-loop-block
invariant-loop-block l = record {
  all : l.initial.block-iterator.rest.items ≡ l.yielded ++ l.block-iterator.rest.items;
  rising : Rise way_cmp (map (change_pair way_of) l.changes.items);
  among : AreAmong l.yielded (map (change_pair way_of) l.changes.items);
  placed : (before : List (WayId × Block))
      → ((w : WayId) → find way_cmp w before ≡ block_at (built_in l.standing) (map_of l.standing.blocks.now) w)
      → ArePlaced l.yielded (λ w. find way_cmp w before)
      (λ w. find way_cmp w (over way_cmp (map (change_pair way_of) l.changes.items) before));
}
