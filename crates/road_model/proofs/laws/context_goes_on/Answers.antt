use Rattle.road_model.proofs.TurnSteps.{goes_on_behind}
use Rattle.road_model.proofs.laws.context_goes_on.Goals as goal

pub returns : goal.returns
returns g c M d q t x more k h l i e = goes_on_behind M _ d q t x more k h l i e
