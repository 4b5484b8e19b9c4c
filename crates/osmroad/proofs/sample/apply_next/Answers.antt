use Rattle.std.proofs.Common.{◌∙◌, List, subst}
use Rattle.road_base.specs.declared.event.Event.{Event}
use Rattle.road_base.specs.Applying.{IsApplied}
use Rattle.osmroad.proofs.sample.apply_next.Goals as goal

pub returns-clause-applied : goal.returns-clause-applied
returns-clause-applied g c =
    subst (λ (l : List Event). IsApplied c.args.engine.now.world l c.apply.new.self.world)
    (c.deref.ensures.value ∙ c.in_ok-events.ensures.items) c.in_ok-apply.ensures.applied
