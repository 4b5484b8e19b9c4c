use Rattle.std.proofs.Common.{◌≡◌, ◌+◌, length, arith, ap}
use Rattle.turn_automata.specs.Trees.{lists_of}
use Rattle.turn_automata.proofs.TreeLists.{length_lists}
use Rattle.turn_automata.proofs.tree.Tree.len.Goals as goal

pub returns : goal.returns
returns c =
    let es = c.self.inside.edges.keys in
    let l : length (lists_of es) ≡ length es + 1 = length_lists es in
    let v : length (lists_of es) ≡ length c.args.self.now = ap length c.self.view_is in
    grind (arith, l, v)
