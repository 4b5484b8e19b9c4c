-- The words of one restriction, as a list.
use Rattle.std.specs.Prelude.{◌≡◌, ◌≢◌, List, [], ◌∷◌, Some, IsTrue, Contains}
use Rattle.std.specs.List.{AllByRecursion}
use Rattle.road_base.specs.declared.ids.RelationId.{RelationId}
use Rattle.road_base.specs.declared.objects.Relation.{Relation}
use Rattle.road_base.specs.Objects.{Objects, relation_of}
use Rattle.road_model.specs.Rules.{Rules, is_restriction}
use Rattle.road_model.specs.Restrictions.{IsFirstCause, IsUsable}
use Rattle.road_model.specs.Words.{IsWord}
use Rattle.restrictions.specs.declared.word_list.Word.{Word}
use Rattle.restrictions.specs.declared.relation_words.WordsError.{WordsError}
use Rattle.restrictions.specs.declared.relation_words.WordsError.TheVariants.{Unusable, NoMemory}

-- the relation is visible and a restriction
pub record IsRestriction (M : Objects) (r : RelationId) : Type 0 where
  pub body : Relation
  pub visible : relation_of M r ≡ Some body
  pub restriction : IsTrue (is_restriction body.tags)

-- no cause holds for the visible relation
pub record IsOfUse (M : Objects) (P : Rules) (r : RelationId) : Type 0 where
  pub body : Relation
  pub visible : relation_of M r ≡ Some body
  pub usable : IsUsable M P body

-- none stands twice
abbrev pub AreDistinct : {A : Type 0} → List A → Type 0
AreDistinct [] = Unit {0}
AreDistinct (x ∷ xs) = AllByRecursion (λ y. x ≢ y) xs × AreDistinct xs

-- it is a word of the relation
pub record IsWordOf (M : Objects) (P : Rules) (r : RelationId) (w : Word) : Type 0 where
  pub of : w.relation ≡ r
  pub is : IsWord M P r w.only w.binding w.steps

-- the list has exactly the words of the relation, each once, in any order
pub record AreWords (M : Objects) (P : Rules) (r : RelationId) (words : List Word) : Type 0 where
  pub each : (w : Word) → Contains words w → IsWordOf M P r w
  pub all : (w : Word) → IsWordOf M P r w → Contains words w
  pub once : AreDistinct words

-- the refusal names the first cause for which the relation is of no use, unless it is for want of memory
abbrev pub SaysCause : Objects → Rules → RelationId → WordsError → Type 0
SaysCause M P r (Unusable cause) = (body : Relation) × (relation_of M r ≡ Some body) × IsFirstCause M P body cause
SaysCause M P r NoMemory = Unit {0}
