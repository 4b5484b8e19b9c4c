use Rattle.std.proofs.Common.{◌↔◌, Contains, sym, subst}
use Rattle.road_base.specs.declared.ids.Key.TheVariants.{Node as NodeKey, Relation as RelationKey}
use Rattle.road_base.specs.Objects.{key_cmp}
use Rattle.road_model.specs.Links.{HasMember}
use Rattle.road_model.specs.Orders.{node_cmp}
use Rattle.layered_maps.specs.Lists.{Has}
use Rattle.std.proofs.lemmas.Result.{IfOk-weaker}
use Rattle.back_references.proofs.ExchangedPairs.{chained, link_after, in_or_out}
use Rattle.back_references.proofs.NamedObjects.{node_links_at, member_same}
use Rattle.back_references.proofs.references.References.node_rules_after.Goals as goal

pub returns-clause-exactly : goal.returns-clause-exactly
returns-clause-exactly c =
    let M = c.args.before.now in
    let N = c.args.after.now in
    let keys = c.args.keys.now in
    IfOk-weaker c.exchanged.result _ _ (λ i is n r. chained _ _ _ (is n r)
    (link_after (Has node_cmp c.args.self.now.node_rules n r) (HasMember M r (NodeKey n)) (HasMember N r (NodeKey n))
    (Contains c.in_ok-gone.gone.items (n, r)) (Contains c.in_ok-come.come.items (n, r)) (Contains keys (RelationKey r))
    (c.requires.held.node_rules n r)
    (subst (λ l. Contains l (n, r) ↔ (HasMember M r (NodeKey n) × Contains keys (RelationKey r)))
    (sym c.in_ok-gone.ensures)
    (node_links_at M keys n r))
    (subst (λ l. Contains l (n, r) ↔ (HasMember N r (NodeKey n) × Contains keys (RelationKey r)))
    (sym c.in_ok-come.ensures)
    (node_links_at N keys n r))
    (in_or_out key_cmp c.key_order.ensures.total c.key_order.ensures.ties keys (RelationKey r))
    (λ out. member_same M N r (NodeKey n) (c.requires.same (RelationKey r) out))
    (λ out. member_same N M r (NodeKey n) (sym (c.requires.same (RelationKey r) out))))) c.exchanged.ensures.exchanged
