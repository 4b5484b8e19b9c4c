use Rattle.moment_rules.proofs.OneMoment.{one_moment}
use Rattle.moment_rules.proofs.moment_texts.one_moment.Goals as goal

pub returns : goal.returns
returns c = one_moment
