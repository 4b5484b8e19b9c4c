use Rattle.std.proofs.Common.{◌↔◌, Contains, sym, subst}
use Rattle.road_base.specs.declared.ids.Key.TheVariants.{Way as WayKey}
use Rattle.road_base.specs.Objects.{key_cmp}
use Rattle.road_model.specs.Links.{RefersTo}
use Rattle.road_model.specs.Orders.{node_cmp}
use Rattle.layered_maps.specs.Lists.{Has}
use Rattle.std.proofs.lemmas.Result.{IfOk-weaker}
use Rattle.back_references.proofs.ExchangedPairs.{chained, link_after, in_or_out}
use Rattle.back_references.proofs.NamedObjects.{way_links_at, refers_same}
use Rattle.back_references.proofs.references.References.ways_after.Goals as goal

pub returns-clause-exactly : goal.returns-clause-exactly
returns-clause-exactly c =
    let M = c.args.before.now in
    let N = c.args.after.now in
    let keys = c.args.keys.now in
    IfOk-weaker c.exchanged.result _ _ (λ i is n w. chained _ _ _ (is n w)
    (link_after (Has node_cmp c.args.self.now.ways n w) (RefersTo M w n) (RefersTo N w n)
    (Contains c.in_ok-gone.gone.items (n, w)) (Contains c.in_ok-come.come.items (n, w)) (Contains keys (WayKey w))
    (c.requires.held.ways n w)
    (subst (λ l. Contains l (n, w) ↔ (RefersTo M w n × Contains keys (WayKey w))) (sym c.in_ok-gone.ensures)
    (way_links_at M keys n w))
    (subst (λ l. Contains l (n, w) ↔ (RefersTo N w n × Contains keys (WayKey w))) (sym c.in_ok-come.ensures)
    (way_links_at N keys n w))
    (in_or_out key_cmp c.key_order.ensures.total c.key_order.ensures.ties keys (WayKey w))
    (λ out. refers_same M N w n (c.requires.same (WayKey w) out))
    (λ out. refers_same N M w n (sym (c.requires.same (WayKey w) out))))) c.exchanged.ensures.exchanged
