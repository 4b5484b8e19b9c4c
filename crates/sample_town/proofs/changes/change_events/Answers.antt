use Rattle.std.proofs.Common.{◌≡◌, ◌∙◌, ℕ, [], ap}
use Rattle.road_base.specs.declared.event.Event.{Event}
use Rattle.sample_town.proofs.Listed.{listed_none, listed_more, iterate_none, iterate_next}
use Rattle.sample_town.specs.Draws.{iterate}
use Rattle.sample_town.specs.Lists.{drawn_event, after_event}
use Rattle.sample_town.proofs.changes.change_events.Goals as goal

abbrev from_state : ℕ → ℕ → ℕ → Event
from_state q s i = drawn_event q (iterate after_event i s)

pub loop-init : goal.loop-init
loop-init c = record {
  items = c.in_ok-list.ensures.items ∙ listed_none (from_state c.args.change c.args.draws.now.state) [];
  state = iterate_none after_event c.args.draws.now.state;
}

pub loop-preserved : goal.loop-preserved
loop-preserved c =
    let s = c.args.draws.now.state in
    let i = c.loop.counter in
    let is : c.in_ok-draw_event.field-0 ≡ from_state c.args.change s i =
    c.in_ok-draw_event.ensures.event ∙ ap (drawn_event c.args.change) c.loop.invariant.state in
    record {
      items = listed_more (from_state c.args.change s) i [] _ _ _
          c.loop.invariant.items is c.in_ok-push.ensures.items;
      state = c.draw_event.ensures.state ∙ ap after_event c.loop.invariant.state ∙ iterate_next after_event i s;
    }
