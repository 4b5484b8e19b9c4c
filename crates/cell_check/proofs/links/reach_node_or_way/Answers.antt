use Rattle.std.proofs.Common.{sym, subst}
use Rattle.std.proofs.lemmas.Result.{on_ok_weaker}
use Rattle.cell_check.specs.Searches.{IsNodeOrWay}
use Rattle.cell_check.proofs.FoundKeys.{finds_if, finds_not}
use Rattle.cell_check.proofs.links.reach_node_or_way.Goals as goal

pub returns-in-Node : goal.returns-in-Node
returns-in-Node c = on_ok_weaker c.reach.result
    (finds_if c.args.search.now c.reach.new.self c.args.key c.args.start IsNodeOrWay
    (subst IsNodeOrWay (sym c.in-Node.is) tt)) c.reach.ensures

pub returns-in-Way : goal.returns-in-Way
returns-in-Way c = on_ok_weaker c.reach-in-Way.result
    (finds_if c.args.search.now c.reach-in-Way.new.self c.args.key c.args.start IsNodeOrWay
    (subst IsNodeOrWay (sym c.in-Way.is) tt)) c.reach-in-Way.ensures

pub returns-in-Relation : goal.returns-in-Relation
returns-in-Relation c =
    finds_not c.args.search.now c.args.key c.args.start IsNodeOrWay (λ p. subst IsNodeOrWay c.in-Relation.is p)
