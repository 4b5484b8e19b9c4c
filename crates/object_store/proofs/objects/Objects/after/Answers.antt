use Rattle.std.proofs.Common.{IsTrue, sym, subst, ◌∙◌}
use Rattle.std.specs.FinMap.{is_sorted}
use Rattle.road_base.specs.Objects.{key_cmp}
use Rattle.object_store.proofs.KeptPairs.{exact_by, changes_rise, left_sorted, left_applied}
use Rattle.object_store.proofs.objects.Objects.after.Goals as goal

pub prepare-requires-clause-exact : goal.prepare-requires-clause-exact
prepare-requires-clause-exact c = exact_by _ c.key_order.ensures.by_cmp c.key_order.ensures.ties

pub prepare-requires-clause-rising : goal.prepare-requires-clause-rising
prepare-requires-clause-rising c =
    changes_rise c.key_order.ensures.total c.key_order.ensures.ties _ c.key_order.ensures.by_cmp c.self.inside.map
    c.args.self.now c.self.view_is c.args.events.items _ c.in_ok-changes.ensures c.requires

pub invariant_of-self : goal.invariant_of-self
invariant_of-self c =
    subst (λ m. IsTrue (is_sorted key_cmp m)) (sym c.prepare.ensures.same) c.self.invariant

pub invariant_of-self-2 : goal.invariant_of-self-2
invariant_of-self-2 c =
    subst (λ m. IsTrue (is_sorted key_cmp m)) (sym c.prepare.ensures.same) c.self.invariant

pub invariant_of-result : goal.invariant_of-result
invariant_of-result c =
    left_sorted c.key_order.ensures.total c.key_order.ensures.ties _ c.key_order.ensures.by_cmp c.self.inside.map
    c.args.self.now c.self.view_is c.args.events.items _ c.in_ok-changes.ensures _
    (c.into_after-map.ensures ∙ c.in_ok-prepared.ensures.after) c.self.invariant

pub returns-clause-after : goal.returns-clause-after
returns-clause-after c =
    left_applied c.key_order.ensures.total c.key_order.ensures.ties _ c.key_order.ensures.by_cmp c.self.inside.map
    c.args.self.now c.self.view_is c.args.events.items _ c.in_ok-changes.ensures _
    (c.into_after-map.ensures ∙ c.in_ok-prepared.ensures.after) c.requires
