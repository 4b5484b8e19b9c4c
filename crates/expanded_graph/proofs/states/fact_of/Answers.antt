-- What is known of the state follows from what is known of the state before.
use Rattle.std.proofs.Common.{arith, None, false}
use Rattle.std.proofs.lemmas.Option.{slice_get-get_or}
use Rattle.ordered_lists.proofs.ListPlaces.{some_at, contains_at}
use Rattle.expanded_graph.proofs.StatesKnown.{few, grown, at_most_one}
use Rattle.expanded_graph.proofs.states.fact_of.Goals as goal

pub overflow_add-result : goal.overflow_add-result
overflow_add-result g c =
    let M = g.M.World.objects c.args.network.now.world.now in
    let P = g.P.Profile.rules c.args.network.now.profile in
    let m = c.args.automaton.now in
    let p = some_at m.states c.args.before c.requires.state in
    let known = c.requires.known c.args.before p.0 _ p.1 (slice_get-get_or c.args.facts.now c.args.before
    (record { is_legal = false; ends = None; pieces = 0 }) c.requires.within) in
    let l = few M P m.words p.0 _ known in
    let s = c.requires.short p.0 (contains_at m.states c.args.before p.0 p.1) in
    let k = at_most_one c.args.ends in
    let e = c.count.ensures in
    omega arith

pub returns : goal.returns
returns g c p st =
    let M = g.M.World.objects c.args.network.now.world.now in
    let P = g.P.Profile.rules c.args.network.now.profile in
    let m = c.args.automaton.now in
    let known = c.requires.known c.args.before p _ st (slice_get-get_or c.args.facts.now c.args.before
    (record { is_legal = false; ends = None; pieces = 0 }) c.requires.within) in
    grown M P m.words p _ known c.args.step c.is_legal.result c.args.ends c.count.result (c.is_legal.ensures p st)
    c.requires.ends c.count.ensures
