use Rattle.std.proofs.Common.{sym, subst}
use Rattle.std.proofs.lemmas.Result.{on_ok_weaker}
use Rattle.touched_ways.specs.Searches.{IsNodeOrWay}
use Rattle.touched_ways.proofs.FoundKeys.{finds_if, finds_not, finds_key}
use Rattle.touched_ways.proofs.found.Reached.add_node_or_way.Goals as goal

pub returns-in-Node : goal.returns-in-Node
returns-in-Node c = on_ok_weaker c.add_node.result
    (λ h. finds_if c.args.self.now c.add_node.new.self c.args.key IsNodeOrWay (subst IsNodeOrWay (sym c.in-Node.is) tt)
    (finds_key c.args.self.now c.add_node.new.self c.args.key _ c.in-Node.is h)) c.add_node.ensures

pub returns-in-Way : goal.returns-in-Way
returns-in-Way c = on_ok_weaker c.add_way.result
    (λ h. finds_if c.args.self.now c.add_way.new.self c.args.key IsNodeOrWay (subst IsNodeOrWay (sym c.in-Way.is) tt)
    (finds_key c.args.self.now c.add_way.new.self c.args.key _ c.in-Way.is h)) c.add_way.ensures

pub returns-in-Relation : goal.returns-in-Relation
returns-in-Relation c =
    finds_not c.args.self.now c.args.key IsNodeOrWay (λ p. absurd (subst IsNodeOrWay c.in-Relation.is p))
