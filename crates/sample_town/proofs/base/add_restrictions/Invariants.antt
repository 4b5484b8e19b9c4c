use Rattle.std.proofs.Common.{◌≡◌, ◌+◌, ◌*◌, ◌++◌}
use Rattle.sample_town.specs.Draws.{after_draws, listed}
use Rattle.sample_town.specs.Lists.{drawn_restriction}
use Rattle.sample_town.proofs.base.add_restrictions.Given as goal

abbrev pub invariant-loop-place : goal.invariant-loop-place
invariant-loop-place l = record {
  items : l.list.items
      ≡ l.fn.list.items
      ++ listed (λ i. drawn_restriction (1 + i) (after_draws (3 * i) l.fn.draws.state)) l.place;
  state : l.draws.state ≡ after_draws (3 * l.place) l.fn.draws.state;
}
