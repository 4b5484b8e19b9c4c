use Rattle.std.proofs.Common.{◌≡◌, ◌∙◌, ℕ, ◌+◌, ◌*◌, ap, sym, arith}
use Rattle.road_base.specs.declared.event.Event.{Event}
use Rattle.sample_town.proofs.Listed.{listed_none, listed_more, iterate_none, iterate_sum}
use Rattle.sample_town.specs.Draws.{after_draw, after_draws}
use Rattle.sample_town.specs.Lists.{drawn_restriction}
use Rattle.sample_town.proofs.base.add_restrictions.Goals as goal

abbrev from_state : ℕ → ℕ → Event
from_state s i = drawn_restriction (1 + i) (after_draws (3 * i) s)

pub loop-place-init : goal.loop-place-init
loop-place-init c = record {
  items = listed_none (from_state c.args.draws.now.state) c.args.list.now.items;
  state = iterate_none after_draw c.args.draws.now.state;
}

pub loop-place-preserved : goal.loop-place-preserved
loop-place-preserved c =
    let s = c.args.draws.now.state in
    let is : c.in_ok-draw_restriction.field-0 ≡ from_state s c.loop-place.place =
    c.in_ok-draw_restriction.ensures.event
    ∙ ap (drawn_restriction (1 + c.loop-place.place)) c.loop-place.invariant.state in
    let times : 3 * c.loop-place.place + 3 ≡ 3 * (c.loop-place.place + 1) = omega arith in
    record {
      items = listed_more (from_state s) c.loop-place.place c.args.list.now.items _ _ _
          c.loop-place.invariant.items is c.in_ok-push.ensures.items;
      state = c.draw_restriction.ensures.state
          ∙ ap (after_draws 3) c.loop-place.invariant.state
          ∙ sym (iterate_sum after_draw (3 * c.loop-place.place) 3 s)
          ∙ ap (λ n. after_draws n s) times;
    }
