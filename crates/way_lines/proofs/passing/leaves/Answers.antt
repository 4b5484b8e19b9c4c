-- A step that names no pair can't be driven.
use Rattle.std.proofs.Common.{◌∙◌}
use Rattle.std.proofs.lemmas.Bool.{false≢true}
use Rattle.way_lines.proofs.NamedPairs.{undrivable}
use Rattle.way_lines.proofs.passing.leaves.Goals as goal

pub returns-in-None : goal.returns-in-None
returns-in-None g c = (
  λ yes. absurd (false≢true yes),
  λ goes. undrivable (g.M.World.objects c.args.network.now.world.now) (g.P.Profile.rules c.args.network.now.profile)
      c.args.step c.in-None.ensures.named ∙ goes.drives,
)
