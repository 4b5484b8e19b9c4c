-- The words are those near the ways, and what is known of the states is so.
use Rattle.expanded_graph.proofs.StatesKnown.{all_short, facts}
use Rattle.expanded_graph.proofs.states.States.of.Goals as goal

pub state_facts-requires-clause-short : goal.state_facts-requires-clause-short
state_facts-requires-clause-short g c =
    let M = g.M.World.objects c.args.network.now.world.now in
    let P = g.P.Profile.rules c.args.network.now.profile in
    let m = c.in_ok-automaton.automaton in
    all_short M P m.words m.states c.in_ok-automaton.ensures.words c.closed.ensures.lists
    (c.words_on_ways.ensures.short M)

pub returns-clause-states : goal.returns-clause-states
returns-clause-states g c w has =
    let M = g.M.World.objects c.args.network.now.world.now in
    let P = g.P.Profile.rules c.args.network.now.profile in
    let m = c.in_ok-automaton.automaton in
    let near = c.in_ok-automaton.ensures.near w has in
    record {
      words = near;
      count = c.in_ok-facts.ensures.count;
      each = λ n q f st at. facts M P m.words q f (c.in_ok-facts.ensures.known n q f st at) w near
          (λ d h each turns is. c.context_steps.ensures.names M d q h each turns is);
    }
