use Rattle.std.proofs.Common.{◌↔◌, Contains, sym, subst}
use Rattle.road_model.specs.Links.{RefersTo}
use Rattle.back_references.proofs.ExchangedPairs.{chained}
use Rattle.back_references.proofs.NamedObjects.{way_links}
use Rattle.back_references.proofs.references.ways_of.Goals as goal

pub returns : goal.returns
returns c =
    let M = c.args.objects.now in
    λ n w. chained _ _ _ (c.in_ok-lists.ensures n w)
    (subst (λ l. Contains l (n, w) ↔ RefersTo M w n) (sym c.in_ok-pairs.ensures)
    (way_links M c.ways.result.now c.ways.ensures.exactly n w))
