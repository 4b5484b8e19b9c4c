use Rattle.std.proofs.Common.{◌≡◌, ◌++◌}
use Rattle.sample_town.specs.Draws.{after_draws, listed}
use Rattle.sample_town.specs.Lists.{base_east_way}
use Rattle.sample_town.proofs.base.add_ways_east.Given as goal

abbrev pub invariant-loop-place : goal.invariant-loop-place
invariant-loop-place l = record {
  items : l.list.items ≡ l.fn.list.items ++ listed (base_east_way l.fn.draws.state) l.place;
  state : l.draws.state ≡ after_draws l.place l.fn.draws.state;
}
