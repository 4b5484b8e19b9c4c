-- Whether one may drive from one node to another.
use Rattle.std.specs.Prelude.{◌≡◌, ◌⊎◌, List, [], ◌∷◌, ◌++◌, Some, IsTrue, IsFalse}
use Rattle.road_base.specs.declared.ids.NodeId.{NodeId}
use Rattle.road_base.specs.declared.ids.Step.{Step}
use Rattle.road_base.specs.Objects.{Objects}
use Rattle.road_model.specs.Rules.{Rules}
use Rattle.road_model.specs.Lines.{tail_of, head_of}
use Rattle.road_model.specs.Driving.{located}
use Rattle.road_model.specs.Network.{Legal}
use Rattle.context_search.specs.declared.found.Found.{Found}
use Rattle.context_search.specs.declared.found.Found.TheVariants.{Drive, NoNode, Nowhere}

-- a legal drive whose first step begins at a and whose last step ends at b
pub record LeadsTo (M : Objects) (P : Rules) (a b : NodeId) (d : List Step) : Type 0 where
  pub legal : Legal M P d
  pub first : Step
  pub rest : List Step
  pub begins : d ≡ first ∷ rest
  pub tail : tail_of M first ≡ Some a
  pub front : List Step
  pub last : Step
  pub ends : d ≡ front ++ last ∷ []
  pub head : head_of M last ≡ Some b

-- Some such drive; or the first of the two nodes that isn't visible or has no location; or that both have one, and
-- there is no such drive.
abbrev pub IsFound : Objects → Rules → NodeId → NodeId → Found → Type 0
IsFound M P a b (Drive d) = LeadsTo M P a b d
IsFound M P a b (NoNode v) = IsFalse (located M (Some v)) × ((v ≡ a) ⊎ ((v ≡ b) × IsTrue (located M (Some a))))
IsFound M P a b Nowhere = IsTrue (located M (Some a)) × IsTrue (located M (Some b))
    × ((d : List Step) → LeadsTo M P a b d → ⊥)
