use Rattle.std.proofs.Common.{◌≡◌, refl}
use Rattle.std.proofs.lemmas.Result.{on_ok_weaker}
use Rattle.road_base.specs.declared.ids.Key.TheVariants.{Node as NodeKey}
use Rattle.touched_ways.specs.declared.found.Reached.{Reached}
use Rattle.touched_ways.proofs.FoundKeys.{found_nodes, finds_one}
use Rattle.touched_ways.proofs.found.Reached.add_node.Goals as goal

pub returns : goal.returns
returns c =
    let f = c.args.self.now in
    let g : Reached = record f { nodes = c.add.new.list } in
    on_ok_weaker c.add.result
    (λ added. finds_one NodeKey c.args.node f g (found_nodes f g (λ x. x ≡ c.args.node) added refl refl))
    c.add.ensures
