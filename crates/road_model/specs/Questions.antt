-- What is asked of one who follows a world.
use Rattle.std.specs.Prelude.{◌≢◌, []}
use Rattle.road_model.specs.declared.follower.Question.{Question}
use Rattle.road_model.specs.declared.follower.Question.TheVariants.{Graph, State, Drive, Reach}

-- a drive that is asked for has a step at least
abbrev pub HasSteps : Question → Type 0
HasSteps Graph = Unit
HasSteps State = Unit
HasSteps (Drive d) = d ≢ []
HasSteps (Reach a b) = Unit
