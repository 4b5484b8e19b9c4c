-- The step's tail is one of the two nodes.
use Rattle.std.proofs.Common.{inl, inr, sym, ◌∙◌}
use Rattle.std.proofs.lemmas.Bool.{false≢true}
use Rattle.way_lines.proofs.NamedPairs.{tail_between, leaves_here, leaves_no_other}
use Rattle.way_lines.proofs.passing.leaves_between.Goals as goal
use Rattle.way_lines.proofs.passing.leaves_between.Goals.{in-Forward, in-Backward}

pub returns-then-eq : goal.returns-then-eq
returns-then-eq g c =
    let M = g.M.World.objects c.args.network.now.world.now in
    let P = g.P.Profile.rules c.args.network.now.profile in
    let s = c.args.step in
    let there = tail_between M s c.args.first c.args.second c.match-step.tail c.requires.first c.requires.second
    (elim c.match-step.branch [
      | in-Forward w ↦ inl (w.in-Forward.is, w.tail-is)
      | in-Backward w ↦ inr (w.in-Backward.is, w.tail-is)
    ]) in (
      λ yes. leaves_here M P s c.match-step.tail c.args.node there (sym c.eq.ensures ∙ c.if-eq.true)
          (sym c.is_drivable_between.ensures ∙ yes),
      λ goes. c.is_drivable_between.ensures ∙ goes.drives,
    )

pub returns-else-eq : goal.returns-else-eq
returns-else-eq g c =
    let M = g.M.World.objects c.args.network.now.world.now in
    let P = g.P.Profile.rules c.args.network.now.profile in
    let s = c.args.step in
    let there = tail_between M s c.args.first c.args.second c.match-step.tail c.requires.first c.requires.second
    (elim c.match-step.branch [
      | in-Forward w ↦ inl (w.in-Forward.is, w.tail-is)
      | in-Backward w ↦ inr (w.in-Backward.is, w.tail-is)
    ]) in (
      λ yes. absurd (false≢true (sym c.if-eq.false ∙ yes)),
      λ goes. absurd (leaves_no_other M P s c.match-step.tail c.args.node there (sym c.eq.ensures ∙ c.if-eq.false)
          goes),
    )
