-- What is gathered on the way to the words that may bind a drive.
use Rattle.std.specs.Prelude.{◌≡◌, ◌↔◌, List, ◌++◌, Contains}
use Rattle.std.specs.List.Sorted.{IsSorted, IsSortedByKey}
use Rattle.std.specs.Cmp.Lexicographic.{slice_cmp}
use Rattle.std.specs.declared.cmp.Ordering.{Ordering}
use Rattle.road_base.specs.declared.ids.WayId.{WayId}
use Rattle.road_base.specs.declared.ids.RelationId.{RelationId}
use Rattle.road_base.specs.declared.ids.Key.TheVariants.{Way as WayKey}
use Rattle.road_base.specs.declared.ids.Step.{Step}
use Rattle.road_base.specs.contracts.ids.StepOrd.TheImpl.{ghosts as step_order}
use Rattle.road_base.specs.Objects.{Objects}
use Rattle.road_model.specs.Rules.{Rules}
use Rattle.road_model.specs.Links.{HasMember}
use Rattle.restrictions.specs.declared.word_list.Word.{Word}
use Rattle.restrictions.specs.Words.{IsWordOf}
use Rattle.drive_judging.specs.Tables.{BeginsOn}

-- by way, then position, then direction
abbrev pub AreInOrder : List Step → Type 0
AreInOrder = IsSorted step_order.cmp

-- step by step
abbrev pub steps_cmp : List Step → List Step → Ordering
steps_cmp = slice_cmp step_order.cmp

-- the words stand in the order of their steps
abbrev pub AreInWordOrder : List Word → Type 0
AreInWordOrder = IsSortedByKey (λ w. w.steps) steps_cmp

-- one of the steps lies on the way
pub record LiesOn (steps : List Step) (w : WayId) : Type 0 where
  pub step : Step
  pub among : Contains steps step
  pub on : step.way ≡ w

-- one of the ways is a member of the restriction
pub record IsMemberOf (M : Objects) (ways : List WayId) (r : RelationId) : Type 0 where
  pub way : WayId
  pub among : Contains ways way
  pub member : HasMember M r (WayKey way)

-- it is a word of its relation, and its first step is one of these
abbrev pub BeginsHere : Objects → Rules → List Step → Word → Type 0
BeginsHere M P steps w = IsWordOf M P w.relation w × BeginsOn steps w.steps

-- the list has got the words of the relation that begin on the steps, and nothing else, behind those that it had
pub record GainsWords (M : Objects) (P : Rules) (steps : List Step) (r : RelationId) (old new : List Word) : Type 0
  where
    pub more : List Word
    pub appended : new ≡ old ++ more
    pub exactly : (w : Word) → Contains more w ↔ (IsWordOf M P r w × BeginsOn steps w.steps)

-- the list has exactly the words of these relations that begin on the steps
pub record AreWordsOn (M : Objects) (P : Rules) (steps : List Step) (rs : List RelationId) (words : List Word) : Type 0
  where
    pub each : (w : Word) → Contains words w → BeginsHere M P steps w
    pub all : (w : Word) → Contains rs w.relation → BeginsHere M P steps w → Contains words w
