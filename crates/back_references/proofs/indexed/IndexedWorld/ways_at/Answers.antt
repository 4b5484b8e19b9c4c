use Rattle.std.proofs.Common.{subst}
use Rattle.road_model.specs.Links.{RefersTo}
use Rattle.ordered_lists.specs.Orders.{Lists}
use Rattle.road_model.specs.Orders.{way_cmp}
use Rattle.ordered_lists.proofs.JoinedLists.{lists_same}
use Rattle.layered_maps.specs.Lists.{Has}
use Rattle.road_model.specs.Orders.{node_cmp}
use Rattle.back_references.proofs.indexed.IndexedWorld.ways_at.Goals as goal

pub returns : goal.returns
returns c =
    subst (λ M. Lists (λ w. w) way_cmp (λ w. RefersTo M w c.args.id) c.ways_at.result.now) c.self.view_is
    (lists_same (λ w. w) way_cmp (λ w. Has node_cmp c.self.inside.references.ways c.args.id w)
    (λ w. RefersTo c.self.inside.objects w c.args.id) c.ways_at.result.now c.ways_at.ensures
    (λ w. (c.self.invariant.ways c.args.id w).0) (λ w. (c.self.invariant.ways c.args.id w).1))
