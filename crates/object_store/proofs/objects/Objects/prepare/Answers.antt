use Rattle.std.proofs.Common.{sym, subst, ◌∙◌}
use Rattle.road_base.specs.Applying.{IsApplied}
use Rattle.road_model.specs.Links.{AreChanged}
use Rattle.object_store.proofs.StandingEvents.{standing_back}
use Rattle.object_store.proofs.objects.Objects.prepare.Goals as goal

pub new-requires-clause-keys : goal.new-requires-clause-keys
new-requires-clause-keys c =
    let M = c.args.self.now in
    let N = c.in_ok-after.after in
    subst (λ O. AreChanged O N c.in_ok-keys.keys) (sym (c.in_ok-copy.ensures ∙ c.after.ensures.same))
    (c.in_ok-keys.ensures N (subst (λ l. IsApplied M l N) (sym c.as_slice.ensures.value) c.in_ok-after.ensures.after))

pub returns-clause-after : goal.returns-clause-after
returns-clause-after c =
    let M = c.args.self.now in
    standing_back c.key_order.ensures.total c.key_order.ensures.ties M c.new.result.after c.args.events.now
    c.in_ok-list.list.items c.in_ok-list.ensures.in_order c.in_ok-list.ensures.applied
    (subst (λ O. IsApplied M c.in_ok-list.list.items O) (sym c.new.ensures.after) c.in_ok-after.ensures.after)
