use Rattle.std.proofs.Common.{rules}
use Rattle.access_profile.specs.Restricting.{without_spaces}
use Rattle.moment_rules.proofs.part.without_spaces.Goals as goal

pub returns : goal.returns
unfolding without_spaces
returns c = search rules
