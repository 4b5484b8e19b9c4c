use Rattle.std.proofs.Common.{subst}
use Rattle.road_base.specs.declared.ids.Key.TheVariants.{Way as WayKey}
use Rattle.road_model.specs.Links.{HasMember}
use Rattle.ordered_lists.specs.Orders.{Lists}
use Rattle.road_model.specs.Orders.{relation_cmp}
use Rattle.ordered_lists.proofs.JoinedLists.{lists_same}
use Rattle.layered_maps.specs.Lists.{Has}
use Rattle.road_model.specs.Orders.{way_cmp as by_way}
use Rattle.back_references.proofs.indexed.IndexedWorld.rules_of_way.Goals as goal

pub returns : goal.returns
returns c =
    subst (λ M. Lists (λ r. r) relation_cmp (λ r. HasMember M r (WayKey c.args.id)) c.rules_of_way.result.now)
    c.self.view_is
    (lists_same (λ r. r) relation_cmp (λ r. Has by_way c.self.inside.references.way_rules c.args.id r)
    (λ r. HasMember c.self.inside.objects r (WayKey c.args.id)) c.rules_of_way.result.now
    c.rules_of_way.ensures (λ r. (c.self.invariant.way_rules c.args.id r).0)
    (λ r. (c.self.invariant.way_rules c.args.id r).1))
