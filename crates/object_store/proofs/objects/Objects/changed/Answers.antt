use Rattle.std.proofs.Common.{sym, subst}
use Rattle.road_base.specs.Applying.{IsApplied}
use Rattle.object_store.proofs.StandingEvents.{standing_for}
use Rattle.object_store.proofs.objects.Objects.changed.Goals as goal

pub returns : goal.returns
returns c = λ N applied.
    c.in_ok-keys.ensures N (subst (λ l. IsApplied c.args.self.now l N) (sym c.as_slice.ensures.value)
    (standing_for c.key_order.ensures.total c.key_order.ensures.ties c.args.self.now N c.args.events.now
    c.in_ok-events.events.items c.in_ok-events.ensures.in_order c.in_ok-events.ensures.applied applied))
