-- The state of the steps before the last one is the one from which the edge leads.
use Rattle.std.proofs.Common.{◌≡◌, Some, slice_get, ap, ◌∙◌, subst, arith}
use Rattle.std.proofs.lemmas.Option.{get_or_from_slice_get}
use Rattle.std.proofs.lemmas.List.{same_from_push}
use Rattle.turn_automata.specs.Machines.{StandsFor}
use Rattle.ordered_lists.proofs.ListPlaces.{some_at, one_stands}
use Rattle.expanded_graph.proofs.arcs.target_len.Goals as goal

pub returns-clause-longer : goal.returns-clause-longer
returns-clause-longer c = λ b x k f at before fact small.
    let m = c.args.states.now.automaton in
    let e = c.edge-before.result.0 in
    let less = c.edge-before.ensures.less in
    let p = some_at m.states e (omega (arith, c.requires.state)) in
    let same = same_from_push p.0 b c.edge-before.result.1 x
    (one_stands m.states c.args.state.0 _ _ (c.edge-before.ensures.is p.0 p.1) at) in
    let here : k ≡ e = c.closed.ensures.closed.once k e b before (subst (StandsFor m e) same.0 p.1) in
    let value : c.index.result.now ≡ f =
    c.index.ensures
    ∙ get_or_from_slice_get c.args.states.now.facts.items e f c.index.result.now
    (subst (λ i. slice_get c.args.states.now.facts.items i ≡ Some f) here fact) in
    let count : c.index.result.now.pieces ≡ f.pieces = ap (λ v. v.pieces) value in
    omega arith
