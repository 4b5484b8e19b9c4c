-- Whether the steps may be driven is told by those of the state before, and by what the words stop.
use Rattle.std.proofs.Common.{◌≡◌, ◌++◌, ◌∷◌, [], sym, subst, ◌∙◌, arith}
use Rattle.std.proofs.lemmas.Bool.{false≢true}
use Rattle.std.proofs.lemmas.Option.{slice_get-get_or}
use Rattle.turn_automata.specs.Machines.{StandsFor}
use Rattle.expanded_graph.specs.Known.{IsDriven}
use Rattle.ordered_lists.proofs.ListPlaces.{one_stands}
use Rattle.expanded_graph.proofs.StatesKnown.{goes_on}
use Rattle.expanded_graph.proofs.StatesDriven.{DriveLaws, first_step, shut_step, undriven_before, not_passing}
use Rattle.expanded_graph.proofs.StatesDriven.{next_step}
use Rattle.expanded_graph.proofs.states.is_legal.Goals as goal

pub returns-then-not-drivable : goal.returns-then-not-drivable
returns-then-not-drivable g c p st = shut_step (g.M.World.objects c.args.network.now.world.now)
    (g.P.Profile.rules c.args.network.now.profile) c.args.automaton.now.words p c.args.step
    (sym c.drivable.ensures ∙ c.if-not-drivable.true)

pub returns-then-before-eq0 : goal.returns-then-before-eq0
returns-then-before-eq0 g c p st =
    let M = g.M.World.objects c.args.network.now.world.now in
    let P = g.P.Profile.rules c.args.network.now.profile in
    let m = c.args.automaton.now in
    let laws : DriveLaws M P = record {
      alone = c.drive_grows.ensures.alone M;
      grows = c.drive_grows.ensures.grows M;
      parts = c.drive_parts.ensures M;
      long = c.words_on_ways.ensures.long M;
    } in
    let none : p ≡ [] = one_stands m.states 0 p [] (subst (λ i. StandsFor m i p) c.if-before-eq0.true st)
    c.closed.ensures.closed.empty in
    first_step M P m.words p c.args.step laws none (sym c.drivable.ensures ∙ c.if-not-drivable.false)

pub returns-then-not-facts-before : goal.returns-then-not-facts-before
returns-then-not-facts-before g c p st =
    let M = g.M.World.objects c.args.network.now.world.now in
    let P = g.P.Profile.rules c.args.network.now.profile in
    let m = c.args.automaton.now in
    let laws : DriveLaws M P = record {
      alone = c.drive_grows.ensures.alone M;
      grows = c.drive_grows.ensures.grows M;
      parts = c.drive_parts.ensures M;
      long = c.words_on_ways.ensures.long M;
    } in
    let less = c.edge.ensures.less in
    let within = c.requires.state in
    let front = goes_on m c.edge.result.0 c.args.before c.edge.result.1 p (omega arith) st c.edge.ensures.is in
    let known = c.requires.known c.args.before p _ st (slice_get-get_or c.args.facts.now c.args.before _
    c.requires.within) in
    undriven_before M P m.words p c.args.step laws front.0 c.edge.result.1 front.1
    (subst (IsDriven M P m.words p) c.if-not-facts-before.true known.driven)

pub returns-then-not-pass : goal.returns-then-not-pass
returns-then-not-pass g c p st =
    let M = g.M.World.objects c.args.network.now.world.now in
    let P = g.P.Profile.rules c.args.network.now.profile in
    let m = c.args.automaton.now in
    let laws : DriveLaws M P = record {
      alone = c.drive_grows.ensures.alone M;
      grows = c.drive_grows.ensures.grows M;
      parts = c.drive_parts.ensures M;
      long = c.words_on_ways.ensures.long M;
    } in
    let less = c.edge.ensures.less in
    let within = c.requires.state in
    let front = goes_on m c.edge.result.0 c.args.before c.edge.result.1 p (omega arith) st c.edge.ensures.is in
    not_passing M P m.words p c.args.step laws front.0 c.edge.result.1 front.1
    (sym c.drivable.ensures ∙ c.if-not-drivable.false)
    (λ t. false≢true (sym c.if-not-pass.true ∙ c.pass.ensures.1 t))

pub returns : goal.returns
returns g c p st =
    let M = g.M.World.objects c.args.network.now.world.now in
    let P = g.P.Profile.rules c.args.network.now.profile in
    let m = c.args.automaton.now in
    let laws : DriveLaws M P = record {
      alone = c.drive_grows.ensures.alone M;
      grows = c.drive_grows.ensures.grows M;
      parts = c.drive_parts.ensures M;
      long = c.words_on_ways.ensures.long M;
    } in
    let less = c.edge.ensures.less in
    let within = c.requires.state in
    let front = goes_on m c.edge.result.0 c.args.before c.edge.result.1 p (omega arith) st c.edge.ensures.is in
    let known = c.requires.known c.args.before p _ st (slice_get-get_or c.args.facts.now c.args.before _
    c.requires.within) in
    let passes = c.pass.ensures.0 c.if-not-pass.false in
    subst (IsDriven M P m.words (p ++ c.args.step ∷ [])) (sym c.is_some.ensures)
    (next_step M P m.words p c.args.step laws front.0 c.edge.result.1 front.1
    (sym c.drivable.ensures ∙ c.if-not-drivable.false)
    (subst (IsDriven M P m.words p) c.if-not-facts-before.false known.driven) passes c.go.result
    (c.go.ensures.none p st))
