-- Legal drives, contexts and arcs of an object map under a profile's rules.
use Rattle.std.specs.Prelude.{◌≡◌, ℕ, List, [], ◌∷◌, ◌++◌, Bool, true, false, IsTrue}
use Rattle.road_base.specs.declared.ids.RelationId.{RelationId}
use Rattle.road_base.specs.declared.ids.Step.{Step}
use Rattle.road_base.specs.Objects.{Objects}
use Rattle.road_model.specs.Rules.{Rules}
use Rattle.road_model.specs.Driving.{drivable, Passes}
use Rattle.road_model.specs.Words.{IsWord}
use Rattle.road_model.specs.Legal.{IsLegalBy, MustBy}
use Rattle.road_model.specs.Pieces.{Span, IsPiece, spell}
use Rattle.road_model.specs.Contexts.{IsContextBy, IsLongestEnd, spell_all}

abbrev pub Drives : Objects → Rules → Step → Type 0
Drives M P s = IsTrue (drivable M P s)

-- a No word, and its relation
pub record NoWord (M : Objects) (P : Rules) (u : List Step) : Type 0 where
  pub relation : RelationId
  pub binding : ℕ
  pub word : IsWord M P relation false binding u

-- an Only word with its binding length, and its relation
pub record OnlyWord (M : Objects) (P : Rules) (binding : ℕ) (u : List Step) : Type 0 where
  pub relation : RelationId
  pub word : IsWord M P relation true binding u

pub record AnyWord (M : Objects) (P : Rules) (u : List Step) : Type 0 where
  pub relation : RelationId
  pub only : Bool
  pub binding : ℕ
  pub word : IsWord M P relation only binding u

abbrev pub Must : Objects → Rules → List Step → Step → Type 0
Must M P = MustBy (OnlyWord M P)

abbrev pub Legal : Objects → Rules → List Step → Type 0
Legal M P = IsLegalBy (Drives M P) (Passes M P) (NoWord M P) (OnlyWord M P)

-- no restriction gives a word
abbrev pub HasNoWords : Objects → Rules → Type 0
HasNoWords M P = (u : List Step) → AnyWord M P u → ⊥

-- Step t may go on behind the drive d: it may follow d's last step, no No word ends with it, and where Only words bind
-- d's end, it is one of the steps that they demand.
pub record GoesOn (M : Objects) (P : Rules) (d : List Step) (t : Step) : Type 0 where
  pub passes : (a : List Step) (s : Step) → d ≡ a ++ s ∷ [] → Passes M P s t
  pub no : (a u : List Step) → d ++ t ∷ [] ≡ a ++ u → NoWord M P u → ⊥
  pub only : (a p : List Step) → d ≡ a ++ p → (x : Step) → Must M P p x → Must M P p t

abbrev pub IsContext : Objects → Rules → List Span → Type 0
IsContext M P = IsContextBy spell (IsPiece M P) (Legal M P) (AnyWord M P)

-- the longest context that ends the list of pieces
abbrev pub IsContextOf : Objects → Rules → List Span → List Span → Type 0
IsContextOf M P = IsLongestEnd (IsContext M P)

abbrev pub spell_pieces : List Span → List Step
spell_pieces = spell_all spell

-- from context c there is an arc by piece t, which leads to context e
pub record IsArc (M : Objects) (P : Rules) (c : List Span) (t : Span) (e : List Span) : Type 0 where
  pub from : IsContext M P c
  pub by : IsPiece M P t
  pub legal : Legal M P (spell_pieces c ++ spell t)
  pub to : IsContextOf M P (c ++ t ∷ []) e
