use Rattle.std.proofs.Common.{OnOk, sym, subst}
use Rattle.road_base.specs.declared.ids.Key.{Key}
use Rattle.road_model.specs.Links.{IsLink}
use Rattle.cell_check.specs.Searches.{Finds, FromStart}
use Rattle.cell_check.proofs.links.follow.Goals as goal

pub returns-in-Node : goal.returns-in-Node
returns-in-Node g c =
    subst (λ (k : Key). OnOk c.follow_node.result (Finds c.args.search.now c.follow_node.new.search
    (FromStart c.args.from.start (IsLink (g.M.World.objects c.args.world.now) k)))) (sym c.in-Node.is)
    c.follow_node.ensures

pub returns-in-Way : goal.returns-in-Way
returns-in-Way g c =
    subst (λ (k : Key). OnOk c.follow_way.result (Finds c.args.search.now c.follow_way.new.search
    (FromStart c.args.from.start (IsLink (g.M.World.objects c.args.world.now) k)))) (sym c.in-Way.is)
    c.follow_way.ensures

pub returns-in-Relation : goal.returns-in-Relation
returns-in-Relation g c =
    subst (λ (k : Key). OnOk c.follow_rule.result (Finds c.args.search.now c.follow_rule.new.search
    (FromStart c.args.from.start (IsLink (g.M.World.objects c.args.world.now) k)))) (sym c.in-Relation.is)
    c.follow_rule.ensures
