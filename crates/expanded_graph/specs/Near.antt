-- The steps and words that matter to what may follow on a way.
use Rattle.std.specs.Prelude.{◌≡◌, List, [], ◌∷◌, ◌++◌, Contains}
use Rattle.road_base.specs.declared.ids.WayId.{WayId}
use Rattle.road_base.specs.declared.ids.Step.{Step}
use Rattle.road_base.specs.Objects.{Objects}
use Rattle.road_model.specs.Rules.{Rules}
use Rattle.road_model.specs.Words.{IsWord}
use Rattle.road_model.specs.Network.{AnyWord}
use Rattle.restrictions.specs.declared.word_list.Word.{Word}

-- one of the steps lies on the way
pub record HasStepOn (v : WayId) (u : List Step) : Type 0 where
  pub step : Step
  pub among : Contains u step
  pub on : step.way ≡ v

-- a step between the first and the last lies on the way
pub record HasStepBetween (w : WayId) (u : List Step) : Type 0 where
  pub first : Step
  pub middle : List Step
  pub last : Step
  pub is : u ≡ first ∷ (middle ++ last ∷ [])
  pub on : HasStepOn w middle

-- The step is near way w: it lies on w, or it is one of a word that has a step on w between its first and its last. The
-- steps of a context that ends on w are near w from the last one of its first piece on, since the context of several
-- pieces begins a word and the word goes on.
pub data IsStepNear (M : Objects) (P : Rules) (w : WayId) (s : Step) : Type 0 where
  OnIt : s.way ≡ w → IsStepNear M P w s
  Shares : (u : List Step) → AnyWord M P u → HasStepBetween w u → Contains u s → IsStepNear M P w s

-- words of the map, and among them all that have a step on w, and all that begin near w
pub record AreWordsNear (M : Objects) (P : Rules) (w : WayId) (words : List Word) : Type 0 where
  pub sound : (u : Word) → Contains words u → IsWord M P u.relation u.only u.binding u.steps
  pub on : (u : Word) → IsWord M P u.relation u.only u.binding u.steps → HasStepOn w u.steps → Contains words u
  pub from : (u : Word) → IsWord M P u.relation u.only u.binding u.steps
      → (first : Step) (rest : List Step) → u.steps ≡ first ∷ rest → IsStepNear M P w first → Contains words u
