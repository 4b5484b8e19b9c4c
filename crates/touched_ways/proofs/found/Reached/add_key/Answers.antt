use Rattle.std.proofs.lemmas.Result.{on_ok_weaker}
use Rattle.touched_ways.proofs.FoundKeys.{finds_key}
use Rattle.touched_ways.proofs.found.Reached.add_key.Goals as goal

pub returns-in-Node : goal.returns-in-Node
returns-in-Node c =
    on_ok_weaker c.add_node.result (finds_key c.args.self.now c.add_node.new.self c.args.key _ c.in-Node.is)
    c.add_node.ensures

pub returns-in-Way : goal.returns-in-Way
returns-in-Way c =
    on_ok_weaker c.add_way.result (finds_key c.args.self.now c.add_way.new.self c.args.key _ c.in-Way.is)
    c.add_way.ensures

pub returns-in-Relation : goal.returns-in-Relation
returns-in-Relation c =
    on_ok_weaker c.add_rule.result (finds_key c.args.self.now c.add_rule.new.self c.args.key _ c.in-Relation.is)
    c.add_rule.ensures
