use Rattle.std.proofs.Common.{refl, Contains}
use Rattle.touched_ways.specs.declared.found.Reached.{Reached}
use Rattle.touched_ways.proofs.NumberLists.{contains_behind}
use Rattle.touched_ways.proofs.FoundKeys.{found_nodes}
use Rattle.touched_ways.proofs.found.Reached.add_nodes.Goals as goal

pub returns : goal.returns
returns c =
    let f = c.args.self.now in
    let g : Reached = record f { nodes = c.extend_from_slice.new.self } in
    found_nodes f g (Contains c.args.nodes.now)
    (contains_behind g.nodes.items f.nodes.items c.args.nodes.now c.args.nodes.now
    c.in_ok-extend_from_slice.ensures.items refl) refl refl
