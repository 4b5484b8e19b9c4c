use Rattle.std.proofs.Common.{◌↔◌, Contains, sym, subst}
use Rattle.road_base.specs.declared.ids.Key.TheVariants.{Node as NodeKey}
use Rattle.road_model.specs.Links.{HasMember}
use Rattle.back_references.proofs.ExchangedPairs.{chained}
use Rattle.back_references.proofs.NamedObjects.{node_links}
use Rattle.back_references.proofs.references.node_rules_of.Goals as goal

pub returns : goal.returns
returns c =
    let M = c.args.objects.now in
    λ n r. chained _ _ _ (c.in_ok-lists.ensures n r)
    (subst (λ l. Contains l (n, r) ↔ HasMember M r (NodeKey n)) (sym c.in_ok-pairs.ensures)
    (node_links M c.relations.result.now c.relations.ensures.exactly n r))
