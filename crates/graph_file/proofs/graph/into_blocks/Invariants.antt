use Rattle.std.proofs.Common.{◌≡◌, ◌++◌, map}
use Rattle.std.specs.FinMap.{entries}
use Rattle.road_model.specs.BlockMap.{entry_of}
use Rattle.graph_file.proofs.graph.into_blocks.Given as goal

-- the blocks so far are in the map, and the others follow
abbrev pub invariant-loop-block : goal.invariant-loop-block
invariant-loop-block l =
    (entries l.blocks.map ≡ map entry_of l.yielded) × (l.fn.list.items ≡ l.yielded ++ l.block-iterator.rest.items)
