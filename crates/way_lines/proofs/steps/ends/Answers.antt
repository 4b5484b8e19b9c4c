-- The step names a pair, so the nodes at its positions are its ends.
use Rattle.std.proofs.Common.{sym}
use Rattle.road_base.specs.declared.ids.Dir.TheVariants.{Forward, Backward}
use Rattle.way_lines.proofs.NamedPairs.{ends_are}
use Rattle.way_lines.proofs.steps.ends.Goals as goal

pub returns-in-Forward-clause-some : goal.returns-in-Forward-clause-some
returns-in-Forward-clause-some g c =
    let at = c.in-Some.ensures.some in
    ends_are (g.M.World.objects c.args.world.now) c.args.step Forward _ _ c.in-Forward.is (sym c.in-Some.ensures.named)
    at.0 at.1

pub returns-in-Backward-clause-some : goal.returns-in-Backward-clause-some
returns-in-Backward-clause-some g c =
    let at = c.in-Some.ensures.some in
    ends_are (g.M.World.objects c.args.world.now) c.args.step Backward _ _ c.in-Backward.is
    (sym c.in-Some.ensures.named) at.1 at.0
