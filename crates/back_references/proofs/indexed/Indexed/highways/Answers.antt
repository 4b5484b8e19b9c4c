use Rattle.std.proofs.Common.{Contains, IsTrue, List, ap, subst, sym, ◌∙◌}
use Rattle.road_base.specs.declared.ids.WayId.{WayId}
use Rattle.road_base.specs.Objects.{Objects}
use Rattle.object_store.specs.Listed.{AreEntriesOf, is_any}
use Rattle.road_model.specs.Highways.{highways}
use Rattle.ordered_lists.specs.Orders.{rises}
use Rattle.road_model.specs.Orders.{way_cmp}
use Rattle.back_references.proofs.HighwayLists.{highways_are, highways_rise, highway_listed}
use Rattle.back_references.proofs.indexed.Indexed.highways.Goals as goal

pub returns-clause-exactly : goal.returns-clause-exactly
returns-clause-exactly c =
    c.in_ok-highways_among.ensures
    ∙ highways_are c.self.inside.objects c.walk.result c.walk.ensures.entries ∙ ap highways c.self.view_is

pub returns-clause-ascending : goal.returns-clause-ascending
returns-clause-ascending c =
    subst (λ (l : List WayId). IsTrue (rises way_cmp l)) (sym c.in_ok-highways_among.ensures)
    (highways_rise c.key_order.ensures.total c.walk.result c.walk.ensures.in_order)

pub returns-clause-each : goal.returns-clause-each
returns-clause-each c =
    let exactly : AreEntriesOf is_any c.args.self.now c.walk.result =
    subst (λ (N : Objects). AreEntriesOf is_any N c.walk.result) c.self.view_is c.walk.ensures.exactly in
    λ w is. subst (λ (l : List WayId). Contains l w) (sym c.in_ok-highways_among.ensures)
    (highway_listed c.args.self.now c.walk.result exactly w is)
