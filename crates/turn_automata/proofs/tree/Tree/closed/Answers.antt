use Rattle.std.proofs.Common.{subst}
use Rattle.turn_automata.specs.Trees.{IsClosed}
use Rattle.turn_automata.proofs.TreeLists.{closed}
use Rattle.turn_automata.proofs.tree.Tree.closed.Goals as goal

pub returns : goal.returns
returns c = subst IsClosed c.self.view_is (closed c.self.inside.edges.keys c.self.invariant)
