use Rattle.std.proofs.Common.{◌≡◌, take}
use Rattle.road_base.specs.declared.ids.Key.TheVariants.{Node as NodeKey}
use Rattle.cell_check.specs.Searches.{Finds, FromStart, GivenFrom}
use Rattle.cell_check.proofs.links.reach_nodes.Given as goal

-- the search came to those so far
abbrev pub invariant-loop-node : goal.invariant-loop-node
invariant-loop-node l =
    Finds l.fn.search l.search
    (GivenFrom (λ n. FromStart l.start (λ k. k ≡ NodeKey n)) (take l.node-index l.nodes))
