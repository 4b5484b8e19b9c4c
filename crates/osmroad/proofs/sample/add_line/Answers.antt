use Rattle.std.proofs.Common.{◌∙◌, ◌++◌, ℕ, List, refl, ap, subst}
use Rattle.std.specs.FinMap.{empty}
use Rattle.road_base.specs.declared.event.Event.{Event}
use Rattle.road_base.specs.Applying.{IsApplied}
use Rattle.sample_town.specs.Lists.{next_list}
use Rattle.osmroad.specs.Sampling.{IsSampleLine}
use Rattle.osmroad.proofs.SampleReplies.{led_on}
use Rattle.osmroad.proofs.sample.add_line.Goals as goal

pub returns-clause-led : goal.returns-clause-led
returns-clause-led g c = λ n few led.
    let P = g.P.Profile.rules c.args.engine.now.profile in
    led_on P n c.args.change few c.args.town.now c.apply_next.new.town c.args.engine.now.world
    c.apply_next.new.engine.world (next_list c.args.town.now) c.args.text.now.items c.in_ok-line.line.items
    c.extend_from_slice.new.self.items led c.applied_in_turn.ensures refl
    c.in_ok-apply_next.ensures.town c.in_ok-apply_next.ensures.applied
    (subst (λ (p : g.row.P.Denot). (all : List Event) → IsApplied empty all c.apply_next.new.engine.world
    → IsSampleLine (g.P.Profile.rules p) c.args.change all c.in_ok-line.line.items) c.apply_next.ensures.profile
    c.in_ok-line.ensures)
    (c.in_ok-extend_from_slice.ensures.items ∙ ap (λ (l : List ℕ). c.args.text.now.items ++ l) c.deref.ensures.value)
