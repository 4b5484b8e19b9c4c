-- What is found of one step after the other where a drive is judged.
use Rattle.std.specs.Prelude.{◌≡◌, ℕ, ◌≤◌, List, [], ◌∷◌, ◌++◌, length, cond, Option, Some, None, true, false, IsTrue}
use Rattle.std.specs.Prelude.{Contains}
use Rattle.std.specs.Ordering.{is_le}
use Rattle.road_base.specs.declared.ids.RelationId.{RelationId}
use Rattle.road_base.specs.declared.ids.Step.{Step}
use Rattle.road_base.specs.Objects.{Objects}
use Rattle.road_model.specs.declared.answers.Access.{Access}
use Rattle.road_model.specs.declared.answers.Access.TheVariants.{Free, Closed as ClosedAccess}
use Rattle.road_model.specs.declared.answers.Access.TheVariants.{WrongWay as WrongWayAccess}
use Rattle.road_model.specs.Rules.{Rules}
use Rattle.road_model.specs.Orders.{relation_cmp}
use Rattle.road_model.specs.Driving.{drivable, Passes}
use Rattle.road_model.specs.Network.{Legal, GoesOn}
use Rattle.road_model.specs.Broken.{BrokenRule, IsBehind, IsLeast, Applies, place}
use Rattle.restrictions.specs.declared.word_list.Word.{Word}
use Rattle.restrictions.specs.Words.{IsWordOf}
use Rattle.turn_automata.specs.Watched.{Must}
use Rattle.drive_judging.specs.Tables.{BeginsOn}
use Rattle.drive_judging.specs.declared.verdict.Rule.{Rule}
use Rattle.drive_judging.specs.declared.verdict.Rule.TheVariants.{NoStep, NoNode, Closed, WrongWay, Apart, Barrier}
use Rattle.drive_judging.specs.declared.verdict.Rule.TheVariants.{Reversal, No, Only}

-- ---- what is found of a step behind the steps before it

-- no rule with a place below n applies
abbrev pub From : Objects → Rules → List Step → Step → ℕ → Type 0
From M P before s n = (other : BrokenRule) → Applies M P before s other → n ≤ place other

-- with the step the drive isn't legal, and of the rules that apply this one has the first place
pub record Breaks (M : Objects) (P : Rules) (before : List Step) (s : Step) (rule : BrokenRule) : Type 0 where
  pub applies : Applies M P before s rule
  pub first : From M P before s (place rule)
  pub illegal : Legal M P (before ++ s ∷ []) → ⊥

-- the step may be driven, and may follow the one before it, if there is one
pub record Follows (M : Objects) (P : Rules) (before : List Step) (s : Step) : Type 0 where
  pub drives : IsTrue (drivable M P s)
  pub passes : (last : Step) → IsBehind before last → Passes M P last s

-- the step may be driven and may go on behind the steps before it
pub record KeepsOn (M : Objects) (P : Rules) (before : List Step) (s : Step) : Type 0 where
  pub drives : IsTrue (drivable M P s)
  pub goes : GoesOn M P before s

-- the rule that a profile's answer breaks
abbrev pub closing : Access → Option Rule
closing Free = None
closing (ClosedAccess by) = Some (Closed by)
closing WrongWayAccess = Some WrongWay

-- ---- what is found among the words of a list

-- the list has words of the map alone, and all that begin with one of the steps
pub record HasWords (M : Objects) (P : Rules) (steps : List Step) (words : List Word) : Type 0 where
  pub each : (w : Word) → Contains words w → IsWordOf M P w.relation w
  pub all : (w : Word) → IsWordOf M P w.relation w → BeginsOn steps w.steps → Contains words w

-- the fact holds of some word of this relation
pub record WordWith (W : List Word) (Q : Word → Type 0) (r : RelationId) : Type 0 where
  pub word : Word
  pub among : Contains W word
  pub of : r ≡ word.relation
  pub is : Q word

-- it is a No word with which the steps before and s end
pub record EndsDriven (before : List Step) (s : Step) (w : Word) : Type 0 where
  pub no : w.only ≡ false
  pub front : List Step
  pub ends : before ++ s ∷ [] ≡ front ++ w.steps

-- it is an Only word that demands the step x behind the driven ones
pub record DemandsNext (driven : List Step) (w : Word) (x : Step) : Type 0 where
  pub only : w.only ≡ true
  pub bound : w.binding ≤ length driven
  pub rest : List Step
  pub is : w.steps ≡ driven ++ x ∷ rest

abbrev pub Demands : List Step → Word → Type 0
Demands driven w = (x : Step) × DemandsNext driven w x

-- some Only word of the relation demands a step behind the driven ones, and none demands s there
pub record LeavesBehind (W : List Word) (driven : List Step) (s : Step) (r : RelationId) : Type 0 where
  pub lacks : Must W driven s → ⊥
  pub word : WordWith W (Demands driven) r

-- the same behind some end of the steps before
pub record LeavesIn (W : List Word) (before : List Step) (s : Step) (r : RelationId) : Type 0 where
  pub front : List Step
  pub driven : List Step
  pub ends : before ≡ front ++ driven
  pub leaves : LeavesBehind W driven s r

-- the least relation of which the fact holds, None where it holds of none
abbrev pub IsLeastIf : (RelationId → Type 0) → Option RelationId → Type 0
IsLeastIf Q None = (r : RelationId) → Q r → ⊥
IsLeastIf Q (Some r) = IsLeast Q r

-- the lesser one, or the one that there is
abbrev pub lesser : Option RelationId → Option RelationId → Option RelationId
lesser None other = other
lesser (Some a) None = Some a
lesser (Some a) (Some b) = cond (is_le (relation_cmp a b)) (Some a) (Some b)

-- the first of the rules on words that s breaks behind the steps before
abbrev pub IsWordRule : List Word → List Step → Step → Rule → Type 0
IsWordRule W before s NoStep = ⊥
IsWordRule W before s (NoNode v) = ⊥
IsWordRule W before s (Closed by) = ⊥
IsWordRule W before s WrongWay = ⊥
IsWordRule W before s Apart = ⊥
IsWordRule W before s (Barrier v) = ⊥
IsWordRule W before s (Reversal v) = ⊥
IsWordRule W before s (No r) = IsLeast (WordWith W (EndsDriven before s)) r
IsWordRule W before s (Only r) = IsLeast (LeavesIn W before s) r
    × ((q : RelationId) → WordWith W (EndsDriven before s) q → ⊥)
