use Rattle.road_model.proofs.ContextTargets.{target_alone, target_longer}
use Rattle.road_model.proofs.laws.context_target.Goals as goal

pub returns-clause-alone : goal.returns-clause-alone
returns-clause-alone g c M d q t x more k h i e l none = target_alone M _ d q t x more h i e none

pub returns-clause-longer : goal.returns-clause-longer
returns-clause-longer g c M d q t x more a b k h i e l s some w most = target_longer M _ d q t x more a b k h i e l s
    some w most
