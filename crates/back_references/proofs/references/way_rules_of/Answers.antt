use Rattle.std.proofs.Common.{◌↔◌, Contains, sym, subst}
use Rattle.road_base.specs.declared.ids.Key.TheVariants.{Way as WayKey}
use Rattle.road_model.specs.Links.{HasMember}
use Rattle.back_references.proofs.ExchangedPairs.{chained}
use Rattle.back_references.proofs.NamedObjects.{rule_links}
use Rattle.back_references.proofs.references.way_rules_of.Goals as goal

pub returns : goal.returns
returns c =
    let M = c.args.objects.now in
    λ w r. chained _ _ _ (c.in_ok-lists.ensures w r)
    (subst (λ l. Contains l (w, r) ↔ HasMember M r (WayKey w)) (sym c.in_ok-pairs.ensures)
    (rule_links M c.relations.result.now c.relations.ensures.exactly w r))
