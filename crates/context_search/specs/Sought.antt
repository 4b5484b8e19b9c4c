-- Where a drive may begin and end, and which contexts of an object map are listed.
use Rattle.std.specs.Prelude.{◌≡◌, ℕ, ◌≤◌, List, [], ◌∷◌, ◌++◌, map, Some, IsTrue, Contains}
use Rattle.std.specs.BTreeMap.{BTreeMap}
use Rattle.road_base.specs.declared.ids.NodeId.{NodeId}
use Rattle.road_base.specs.declared.ids.WayId.{WayId}
use Rattle.road_base.specs.Objects.{Objects}
use Rattle.road_model.specs.declared.lists.PieceName.{PieceName}
use Rattle.road_model.specs.Rules.{Rules}
use Rattle.road_model.specs.Driving.{located}
use Rattle.ordered_lists.specs.Orders.{rises}
use Rattle.road_model.specs.Pieces.{Span, IsPiece}
use Rattle.road_model.specs.Network.{IsContext}
use Rattle.road_model.specs.Blocks.{IsPieceEntry, IsContextEntry, name_of}
use Rattle.context_search.specs.declared.ends.Begin.{Begin}
use Rattle.context_search.specs.declared.ends.Goal.{Goal}
use Rattle.context_search.specs.declared.ends.DriveEnds.{DriveEnds}
use Rattle.context_search.specs.Searching.{BeginsAt, StopsAt}
use Rattle.context_search.specs.Marks.{At, key_of, key_cmp}
use Rattle.context_search.specs.Visits.{goal_in}

-- the context c as it is written
pub record IsSpot (M : Objects) (P : Rules) (c : List Span) (x : At) : Type 0 where
  pub way : WayId
  pub listed : IsPieceEntry M P way x.piece
  pub entry : IsContextEntry M P listed.piece x.context
  pub is : c ≡ entry.before ++ listed.piece ∷ []

-- all contexts, ascending by their names
pub record AreSpots (M : Objects) (P : Rules) (L : List At) : Type 0 where
  pub up : IsTrue (rises key_cmp (map key_of L))
  pub sound : (x : At) → Contains L x → (c : List Span) × IsSpot M P c x
  pub complete : (c : List Span) → IsContext M P c → (x : At) × Contains L x × IsSpot M P c x

-- a piece as it is written, and a step of it that begins at the node
pub record IsStartAt (M : Objects) (P : Rules) (a : NodeId) (s : Begin) : Type 0 where
  pub way : WayId
  pub listed : IsPieceEntry M P way s.piece.now
  pub begins : BeginsAt M listed.piece s.first a

-- all pieces with a step that begins at the node, and no later such step
pub record AreStarts (M : Objects) (P : Rules) (a : NodeId) (starts : List Begin) : Type 0 where
  pub sound : (s : Begin) → Contains starts s → IsStartAt M P a s
  pub complete : (p : Span) (i : ℕ) → IsPiece M P p → BeginsAt M p i a
      → (s : Begin) × Contains starts s × (s.piece.now.name ≡ name_of p) × (s.first ≤ i)

-- a piece as it is written, and a step of it that ends at the node
pub record IsGoalAt (M : Objects) (P : Rules) (b : NodeId) (n : PieceName) (g : Goal) : Type 0 where
  pub way : WayId
  pub listed : IsPieceEntry M P way g.piece.now
  pub named : g.piece.now.name ≡ n
  pub stops : StopsAt M listed.piece g.last b

-- all pieces with a step that ends at the node, and no earlier such step
pub record AreGoals (M : Objects) (P : Rules) (b : NodeId) (goals : BTreeMap PieceName Goal) : Type 0 where
  pub sound : (n : PieceName) (g : Goal) → goal_in goals n ≡ Some g → IsGoalAt M P b n g
  pub complete : (p : Span) (j : ℕ) → IsPiece M P p → StopsAt M p j b
      → (g : Goal) × (goal_in goals (name_of p) ≡ Some g) × (j ≤ g.last)

-- where a drive between the two nodes, which are visible with locations, may begin and end
pub record AreEnds (M : Objects) (P : Rules) (e : DriveEnds) : Type 0 where
  pub starts : AreStarts M P e.a e.starts.items
  pub goals : AreGoals M P e.b e.goals
  pub from : IsTrue (located M (Some e.a))
  pub to : IsTrue (located M (Some e.b))
