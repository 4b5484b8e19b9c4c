-- One state more is known.
use Rattle.std.proofs.Common.{◌≡◌, ◌+◌, List, [], ◌∷◌, ◌++◌, sym, ap, subst, ◌∙◌, arith, length}
use Rattle.std.proofs.lemmas.List.{length_push}
use Rattle.expanded_graph.specs.declared.states.StateFacts.{StateFacts}
use Rattle.expanded_graph.specs.Known.{AreKnown}
use Rattle.expanded_graph.proofs.StatesKnown.{known_more, known_first, at_rest}
use Rattle.expanded_graph.proofs.states.facts_of.Goals as goal

pub fact_of-fact-requires-clause-known : goal.fact_of-fact-requires-clause-known
fact_of-fact-requires-clause-known g c =
    let M = g.M.World.objects c.args.network.now.world.now in
    let P = g.P.Profile.rules c.args.network.now.profile in
    subst (λ (l : List StateFacts). AreKnown M P c.args.automaton.now l) (sym c.as_slice.ensures.value)
    c.loop-state.invariant.known

pub loop-state-init : goal.loop-state-init
loop-state-init g c =
    let M = g.M.World.objects c.args.network.now.world.now in
    let P = g.P.Profile.rules c.args.network.now.profile in
    let m = c.args.automaton.now in
    let first = c.at_rest.result in
    let facts = c.push.new.self.items in
    let alone : facts ≡ first ∷ [] =
    c.in_ok-push.ensures.items ∙ ap (λ (l : List StateFacts). l ++ first ∷ []) c.in_ok-facts.ensures.items in
    record {
      count = ap length alone;
      known = known_first M P m facts first c.closed.ensures.closed alone
          (at_rest M P m.words first c.at_rest.ensures.legal c.at_rest.ensures.pieces);
    }

pub loop-state-preserved : goal.loop-state-preserved
loop-state-preserved g c =
    let M = g.M.World.objects c.args.network.now.world.now in
    let P = g.P.Profile.rules c.args.network.now.profile in
    let m = c.args.automaton.now in
    let old = c.loop-state.invariant in
    let facts = c.loop-state.facts.items in
    let fact = c.fact_of-fact.result in
    let edge = c.edge-before.result in
    let more = c.in_ok-push-2.ensures.items in
    let less = c.edge-before.ensures.less in
    let inside = c.loop-state-test.true in
    let all = c.len-state-end.ensures in
    let end = c.loop-state.auto.state-end in
    record {
      count = ap length more ∙ length_push facts fact ∙ ap (λ n. n + 1) old.count;
      known = known_more M P m facts c.push-in-loop-state.new.self.items fact c.loop-state.state edge.0 edge.1
          old.count more old.known (omega arith) c.edge-before.ensures.is c.fact_of-fact.ensures;
    }
