use Rattle.std.proofs.Common.{sym, subst}
use Rattle.std.proofs.lemmas.Result.{on_ok_weaker}
use Rattle.touched_ways.specs.Searches.{IsWay}
use Rattle.touched_ways.proofs.FoundKeys.{finds_if, finds_not, finds_key}
use Rattle.touched_ways.proofs.found.Reached.add_if_way.Goals as goal

pub returns-in-Node : goal.returns-in-Node
returns-in-Node c =
    finds_not c.args.self.now c.args.key IsWay (λ p. absurd (subst IsWay c.in-Node.is p))

pub returns-in-Way : goal.returns-in-Way
returns-in-Way c = on_ok_weaker c.add_way.result
    (λ h. finds_if c.args.self.now c.add_way.new.self c.args.key IsWay (subst IsWay (sym c.in-Way.is) tt)
    (finds_key c.args.self.now c.add_way.new.self c.args.key _ c.in-Way.is h)) c.add_way.ensures

pub returns-in-Relation : goal.returns-in-Relation
returns-in-Relation c =
    finds_not c.args.self.now c.args.key IsWay (λ p. absurd (subst IsWay c.in-Relation.is p))
