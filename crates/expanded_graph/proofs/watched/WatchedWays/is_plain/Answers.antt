-- The automaton is in its first state behind the piece, and no ending has its name.
use Rattle.std.proofs.Common.{◌≡◌, [], sym, ◌∙◌, subst}
use Rattle.std.proofs.lemmas.Bool.{eqb-true}
use Rattle.std.proofs.lemmas.List.{nil_from_length}
use Rattle.way_pieces.specs.Names.{piece_of}
use Rattle.expanded_graph.specs.Contexts.{AreEndings}
use Rattle.expanded_graph.proofs.ContextStates.{StepLaws}
use Rattle.expanded_graph.proofs.EndingStates.{are_here}
use Rattle.expanded_graph.proofs.WatchedPieces.{plain}
use Rattle.expanded_graph.proofs.watched.WatchedWays.is_plain.Goals as goal

pub returns : goal.returns
returns g c = λ t.
    let M = g.M.World.objects c.args.network.now.world.now in
    let P = g.P.Profile.rules c.args.network.now.profile in
    let watched = c.args.self.now in
    let m = watched.states.automaton in
    let facts = watched.states.facts.items in
    let p = piece_of c.args.span in
    let laws : StepLaws M P =
    record {
      one = c.one_name.ensures.pieces M;
      to = c.context_steps.ensures.to M;
      from = c.context_steps.ensures.from M;
    } in
    let known = c.requires.watched.states c.args.span.name.way (c.have.ensures c.if-not-have.false) in
    let here = c.endings_with-here.result.now in
    let endings = subst (AreEndings m facts) (sym c.as_slice.ensures.value) c.requires.watched.endings in
    let are = are_here m facts c.args.span.name here c.as_slice.result.now endings c.endings_with-here.ensures in
    let none : here ≡ [] = nil_from_length _ (eqb-true _ _ (sym c.is_empty.ensures ∙ t)) in
    let last = c.last_step.ensures in
    plain M P laws (c.drive_grows.ensures.alone M) m facts c.closed.ensures.closed c.closed.ensures.lists p
    c.requires.piece known last.0 c.last_step.result last.1 c.start-alone.result.0 c.start-alone.ensures.state
    (c.is_first.ensures c.if-not-is_first.false) here are none
