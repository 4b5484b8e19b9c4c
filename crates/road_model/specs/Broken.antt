-- Which rule a drive that isn't legal breaks first, and at which step.
use Rattle.std.specs.Prelude.{◌≡◌, ◌≢◌, ℕ, ◌+◌, ◌≤◌, List, [], ◌∷◌, ◌++◌, length, Some, true, false, IsTrue, IsFalse}
use Rattle.std.specs.Ordering.{is_le}
use Rattle.road_base.specs.declared.ids.NodeId.{NodeId}
use Rattle.road_base.specs.declared.ids.RelationId.{RelationId}
use Rattle.road_base.specs.declared.ids.Step.{Step}
use Rattle.road_base.specs.declared.objects.Way.{Way}
use Rattle.road_base.specs.Objects.{Objects, way_of}
use Rattle.road_model.specs.declared.answers.ClosedBy.{ClosedBy}
use Rattle.road_model.specs.declared.answers.Access.{Access}
use Rattle.road_model.specs.declared.answers.Access.TheVariants.{Closed as ClosedAccess, WrongWay as WrongWayAccess}
use Rattle.road_model.specs.Rules.{Rules}
use Rattle.road_model.specs.Lines.{names_pair, tail_of, head_of}
use Rattle.road_model.specs.Driving.{located, shut, MayTurn}
use Rattle.road_model.specs.Words.{IsWord}
use Rattle.road_model.specs.Network.{Legal, Must}
use Rattle.road_model.specs.Orders.{relation_cmp}

-- the rules in the order in which they are looked at, each with what is named of the map
pub data BrokenRule : Type 0 where
  NoStep : BrokenRule
  NoNode : NodeId → BrokenRule
  Closed : ClosedBy → BrokenRule
  WrongWay : BrokenRule
  Apart : BrokenRule
  Barrier : NodeId → BrokenRule
  Reversal : NodeId → BrokenRule
  No : RelationId → BrokenRule
  Only : RelationId → BrokenRule

-- the rule's place in that order
abbrev pub place : BrokenRule → ℕ
place NoStep = 1
place (NoNode v) = 2
place (Closed by) = 3
place WrongWay = 4
place Apart = 5
place (Barrier v) = 6
place (Reversal v) = 7
place (No r) = 8
place (Only r) = 9

-- ---- when each rule applies to step s behind the steps before it

-- node v of the step isn't visible or has no location; the node where the step begins is looked at first
pub data LacksNode (M : Objects) (s : Step) (v : NodeId) : Type 0 where
  AtTail : tail_of M s ≡ Some v → IsFalse (located M (Some v)) → LacksNode M s v
  AtHead : IsTrue (located M (tail_of M s)) → head_of M s ≡ Some v → IsFalse (located M (Some v)) → LacksNode M s v

-- the step's way is visible, and this is what the profile says of it in the step's direction (OSM wiki, Key:access and
-- Key:oneway)
pub record IsAnswered (M : Objects) (P : Rules) (s : Step) (answer : Access) : Type 0 where
  pub way : Way
  pub visible : way_of M s.way ≡ Some way
  pub says : P.direction way.tags s.dir ≡ answer

-- last is the step before s
abbrev pub IsBehind : List Step → Step → Type 0
IsBehind before last = (front : List Step) × (before ≡ front ++ last ∷ [])

-- step s ends at node v, where step t begins
pub record Meets (M : Objects) (s t : Step) (v : NodeId) : Type 0 where
  pub from : head_of M s ≡ Some v
  pub to : tail_of M t ≡ Some v

-- there is a step before, and it doesn't end where s begins
pub record IsApart (M : Objects) (before : List Step) (s : Step) : Type 0 where
  pub last : Step
  pub behind : IsBehind before last
  pub apart : (v : NodeId) → Meets M last s v → ⊥

-- the step doesn't go back to where the one before began, and node v between them is shut (OSM wiki, Key:barrier)
pub record PassesBarrier (M : Objects) (P : Rules) (before : List Step) (s : Step) (v : NodeId) : Type 0 where
  pub last : Step
  pub behind : IsBehind before last
  pub meets : Meets M last s v
  pub on : head_of M s ≢ tail_of M last
  pub barrier : IsTrue (shut M P v)

-- the step goes back to where the one before began, and turning round at node v between them isn't allowed
pub record TurnsBack (M : Objects) (P : Rules) (before : List Step) (s : Step) (v : NodeId) : Type 0 where
  pub last : Step
  pub behind : IsBehind before last
  pub meets : Meets M last s v
  pub back : head_of M s ≡ tail_of M last
  pub may_not : MayTurn M P v s → ⊥

-- some No word of the relation ends the drive (OSM wiki, Relation:restriction)
pub record EndsNoWord (M : Objects) (P : Rules) (d : List Step) (r : RelationId) : Type 0 where
  pub front : List Step
  pub word : List Step
  pub ends : d ≡ front ++ word
  pub binding : ℕ
  pub is : IsWord M P r false binding word

-- Some Only word of the relation has `driven` as a proper prefix not shorter than its binding length, where `driven`
-- ends the steps before s; and s isn't one of the next steps that Only words demand there (OSM wiki,
-- Relation:restriction).
pub record LeavesOnlyWord (M : Objects) (P : Rules) (before : List Step) (s : Step) (r : RelationId) : Type 0 where
  pub front : List Step
  pub driven : List Step
  pub ends : before ≡ front ++ driven
  pub lacks : Must M P driven s → ⊥
  pub next : Step
  pub rest : List Step
  pub binding : ℕ
  pub word : IsWord M P r true binding (driven ++ next ∷ rest)
  pub bound : binding ≤ length driven

-- r is the least number of a relation of which the fact holds
pub record IsLeast (Q : RelationId → Type 0) (r : RelationId) : Type 0 where
  pub holds : Q r
  pub least : (q : RelationId) → Q q → IsTrue (is_le (relation_cmp r q))

abbrev pub Applies : Objects → Rules → List Step → Step → BrokenRule → Type 0
Applies M P before s NoStep = IsFalse (names_pair M s)
Applies M P before s (NoNode v) = LacksNode M s v
Applies M P before s (Closed by) = IsAnswered M P s (ClosedAccess by)
Applies M P before s WrongWay = IsAnswered M P s WrongWayAccess
Applies M P before s Apart = IsApart M before s
Applies M P before s (Barrier v) = PassesBarrier M P before s v
Applies M P before s (Reversal v) = TurnsBack M P before s v
Applies M P before s (No r) = IsLeast (EndsNoWord M P (before ++ s ∷ [])) r
Applies M P before s (Only r) = IsLeast (LeavesOnlyWord M P before s) r

-- ---- the first broken rule

-- k is the least number from 1 on such that the first k steps of the drive d aren't legal, and of the rules that
-- apply to step k this one has the first place
pub record Broken (M : Objects) (P : Rules) (d : List Step) (k : ℕ) (rule : BrokenRule) : Type 0 where
  pub before : List Step
  pub step : Step
  pub behind : List Step
  pub is : d ≡ before ++ step ∷ behind
  pub counted : k ≡ length before + 1
  pub legal : (a b : List Step) → before ≡ a ++ b → (a ≡ [] → ⊥) → Legal M P a
  pub illegal : Legal M P (before ++ step ∷ []) → ⊥
  pub applies : Applies M P before step rule
  pub first : (other : BrokenRule) → Applies M P before step other → place rule ≤ place other
