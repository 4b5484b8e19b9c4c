use Rattle.std.proofs.Common.{subst}
use Rattle.road_base.specs.declared.ids.Key.TheVariants.{Node as NodeKey}
use Rattle.road_model.specs.Links.{HasMember}
use Rattle.ordered_lists.specs.Orders.{Lists}
use Rattle.road_model.specs.Orders.{relation_cmp}
use Rattle.ordered_lists.proofs.JoinedLists.{lists_same}
use Rattle.layered_maps.specs.Lists.{Has}
use Rattle.road_model.specs.Orders.{node_cmp}
use Rattle.back_references.proofs.indexed.IndexedWorld.rules_at.Goals as goal

pub returns : goal.returns
returns c =
    subst (λ M. Lists (λ r. r) relation_cmp (λ r. HasMember M r (NodeKey c.args.id)) c.rules_at.result.now)
    c.self.view_is
    (lists_same (λ r. r) relation_cmp (λ r. Has node_cmp c.self.inside.references.node_rules c.args.id r)
    (λ r. HasMember c.self.inside.objects r (NodeKey c.args.id)) c.rules_at.result.now
    c.rules_at.ensures (λ r. (c.self.invariant.node_rules c.args.id r).0)
    (λ r. (c.self.invariant.node_rules c.args.id r).1))
