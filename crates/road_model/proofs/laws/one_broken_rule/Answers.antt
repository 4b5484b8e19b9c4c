use Rattle.road_model.proofs.BrokenRules.{one_first, broken_illegal}
use Rattle.road_model.proofs.FirstBroken.{some_broken}
use Rattle.road_model.proofs.laws.one_broken_rule.Goals as goal

pub returns-clause-one : goal.returns-clause-one
returns-clause-one g c M d j k a b h i = one_first M _ d j k a b h i

pub returns-clause-illegal : goal.returns-clause-illegal
returns-clause-illegal g c M d k a h l = broken_illegal M _ d k a h l

pub returns-clause-some : goal.returns-clause-some
returns-clause-some g c M d some n = some_broken M _ d some n
