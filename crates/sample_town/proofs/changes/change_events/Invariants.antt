use Rattle.std.proofs.Common.{◌≡◌}
use Rattle.sample_town.specs.Draws.{iterate, listed}
use Rattle.sample_town.specs.Lists.{drawn_event, after_event}
use Rattle.sample_town.proofs.changes.change_events.Given as goal

abbrev pub invariant-loop : goal.invariant-loop
invariant-loop l = record {
  items : l.list.items ≡ listed (λ i. drawn_event l.change (iterate after_event i l.fn.draws.state)) l.counter;
  state : l.draws.state ≡ iterate after_event l.counter l.fn.draws.state;
}
