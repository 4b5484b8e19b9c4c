use Rattle.std.proofs.Common.{◌≡◌, ◌++◌}
use Rattle.sample_town.specs.Draws.{listed}
use Rattle.sample_town.specs.Lists.{base_node}
use Rattle.sample_town.proofs.base.add_nodes.Given as goal

abbrev pub invariant-loop-place : goal.invariant-loop-place
invariant-loop-place l = l.list.items ≡ l.fn.list.items ++ listed base_node l.place
