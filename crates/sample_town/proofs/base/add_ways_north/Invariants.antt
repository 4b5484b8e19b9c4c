use Rattle.std.proofs.Common.{◌≡◌, ◌/◌, ◌%◌, ◌++◌}
use Rattle.sample_town.specs.Draws.{after_draws, listed}
use Rattle.sample_town.specs.Streets.{north_way}
use Rattle.sample_town.specs.Lists.{drawn_oneway}
use Rattle.sample_town.proofs.base.add_ways_north.Given as goal

abbrev pub invariant-loop-place : goal.invariant-loop-place
invariant-loop-place l = record {
  items : l.list.items
      ≡ l.fn.list.items
      ++ listed (λ i. north_way 0 (i / 60) (i % 60) (drawn_oneway (after_draws i l.fn.draws.state))) l.place;
  state : l.draws.state ≡ after_draws l.place l.fn.draws.state;
}
