use Rattle.std.proofs.Common.{◌≡◌, ◌∙◌, ap, sym}
use Rattle.sample_town.proofs.Listed.{listed_none, listed_more, iterate_none, iterate_sum}
use Rattle.sample_town.specs.Draws.{after_draw, after_draws}
use Rattle.sample_town.specs.Lists.{base_east_way, drawn_oneway}
use Rattle.sample_town.proofs.base.add_ways_east.Goals as goal

pub loop-place-init : goal.loop-place-init
loop-place-init c = record {
  items = listed_none (base_east_way c.args.draws.now.state) c.args.list.now.items;
  state = iterate_none after_draw c.args.draws.now.state;
}

pub loop-place-preserved : goal.loop-place-preserved
loop-place-preserved c =
    let s = c.args.draws.now.state in
    let drawn : c.draw_oneway-oneway.result ≡ drawn_oneway (after_draws c.loop-place.place s) =
    c.draw_oneway-oneway.ensures.value ∙ ap drawn_oneway c.loop-place.invariant.state in
    let is : c.in_ok-east_way.field-0 ≡ base_east_way s c.loop-place.place = cc c.in_ok-east_way.ensures in
    record {
      items = listed_more (base_east_way s) c.loop-place.place c.args.list.now.items _ _ _
          c.loop-place.invariant.items is c.in_ok-push.ensures.items;
      state = c.draw_oneway-oneway.ensures.state
          ∙ ap (after_draws 1) c.loop-place.invariant.state
          ∙ sym (iterate_sum after_draw c.loop-place.place 1 s);
    }
