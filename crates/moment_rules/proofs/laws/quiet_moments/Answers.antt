use Rattle.moment_rules.proofs.MomentLaws.{quiet_direction, quiet_zone}
use Rattle.moment_rules.proofs.laws.quiet_moments.Goals as goal

pub returns-clause-direction : goal.returns-clause-direction
returns-clause-direction c n at ts d quiet = quiet_direction at ts d quiet

pub returns-clause-zone : goal.returns-clause-zone
returns-clause-zone c n at ts d quiet = quiet_zone n at ts d quiet
