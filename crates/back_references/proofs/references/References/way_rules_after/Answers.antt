use Rattle.std.proofs.Common.{◌↔◌, Contains, sym, subst}
use Rattle.road_base.specs.declared.ids.Key.TheVariants.{Way as WayKey, Relation as RelationKey}
use Rattle.road_base.specs.Objects.{key_cmp}
use Rattle.road_model.specs.Links.{HasMember}
use Rattle.road_model.specs.Orders.{way_cmp}
use Rattle.layered_maps.specs.Lists.{Has}
use Rattle.std.proofs.lemmas.Result.{IfOk-weaker}
use Rattle.back_references.proofs.ExchangedPairs.{chained, link_after, in_or_out}
use Rattle.back_references.proofs.NamedObjects.{rule_links_at, member_same}
use Rattle.back_references.proofs.references.References.way_rules_after.Goals as goal

pub returns-clause-exactly : goal.returns-clause-exactly
returns-clause-exactly c =
    let M = c.args.before.now in
    let N = c.args.after.now in
    let keys = c.args.keys.now in
    IfOk-weaker c.exchanged.result _ _ (λ i is w r. chained _ _ _ (is w r)
    (link_after (Has way_cmp c.args.self.now.way_rules w r) (HasMember M r (WayKey w)) (HasMember N r (WayKey w))
    (Contains c.in_ok-gone.gone.items (w, r)) (Contains c.in_ok-come.come.items (w, r)) (Contains keys (RelationKey r))
    (c.requires.held.way_rules w r)
    (subst (λ l. Contains l (w, r) ↔ (HasMember M r (WayKey w) × Contains keys (RelationKey r)))
    (sym c.in_ok-gone.ensures)
    (rule_links_at M keys w r))
    (subst (λ l. Contains l (w, r) ↔ (HasMember N r (WayKey w) × Contains keys (RelationKey r)))
    (sym c.in_ok-come.ensures)
    (rule_links_at N keys w r))
    (in_or_out key_cmp c.key_order.ensures.total c.key_order.ensures.ties keys (RelationKey r))
    (λ out. member_same M N r (WayKey w) (c.requires.same (RelationKey r) out))
    (λ out. member_same N M r (WayKey w) (sym (c.requires.same (RelationKey r) out))))) c.exchanged.ensures.exchanged
