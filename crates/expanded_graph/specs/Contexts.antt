-- The contexts in which one comes to an intersection, and the states in which they are.
use Rattle.std.specs.Prelude.{◌≡◌, ℕ, ◌↔◌, Bool, List, [], ◌∷◌, ◌++◌, map, filter, Some, IsTrue, slice_get, Contains}
use Rattle.std.specs.List.{IsDistinct}
use Rattle.std.specs.List.Sorted.{IsSortedByKey}
use Rattle.std.specs.Ordering.{eq_by_cmp, nat_cmp, is_eq}
use Rattle.road_base.specs.declared.ids.NodeId.{NodeId}
use Rattle.road_base.specs.declared.ids.WayId.{WayId}
use Rattle.road_base.specs.declared.ids.Step.{Step}
use Rattle.road_base.specs.Objects.{Objects}
use Rattle.road_model.specs.declared.lists.PieceName.{PieceName}
use Rattle.road_model.specs.declared.lists.Context.{Context}
use Rattle.road_model.specs.Rules.{Rules}
use Rattle.road_model.specs.Pieces.{Span}
use Rattle.road_model.specs.Network.{Legal, IsContext}
use Rattle.ordered_lists.specs.Orders.{Lists, rises}
use Rattle.road_model.specs.Orders.{name_cmp, names_cmp}
use Rattle.road_model.specs.Turning.{HasTurnSteps}
use Rattle.road_model.specs.Blocks.{IsArcEntry, name_of}
use Rattle.turn_automata.specs.Machines.{Machine, StandsFor, Watches}
use Rattle.expanded_graph.specs.declared.states.StateFacts.{StateFacts}
use Rattle.expanded_graph.specs.declared.endings.Ending.{Ending}
use Rattle.expanded_graph.specs.States.{AreStates}
use Rattle.way_pieces.specs.Names.{Arrives}

-- Context c ends at node v, to which its last piece comes from node u. The automaton watches for the words near this
-- piece's way, and its state with number n is the one in which the context's turn steps leave it.
pub record IsReached (M : Objects) (P : Rules) (m : Machine) (facts : List StateFacts) (n : ℕ) (u v : NodeId)
    (c : List Span) : Type 0 where
  pub way : WayId
  pub states : AreStates M P way m.words m.states facts
  pub context : IsContext M P c
  pub steps : List Step
  pub turn : HasTurnSteps c steps
  pub legal : Legal M P steps
  pub watches : Watches m n steps
  pub before : List Span
  pub piece : Span
  pub is : c ≡ before ++ piece ∷ []
  pub on : piece.way ≡ way
  pub arrives : Arrives M piece u v

-- A context of two pieces or more may end in the state with number n, with its last piece on the way: the state's list
-- has two steps or more, may be driven, and its last step ends a piece of the way.
pub record IsEnding (m : Machine) (facts : List StateFacts) (w : WayId) (n : ℕ) : Type 0 where
  pub first : Step
  pub middle : List Step
  pub last : Step
  pub at : StandsFor m n (first ∷ (middle ++ last ∷ []))
  pub known : StateFacts
  pub fact : slice_get facts n ≡ Some known
  pub legal : IsTrue known.is_legal
  pub name : PieceName
  pub ends : known.ends ≡ Some name
  pub on : name.way ≡ w

-- the last step of the state with number n ends the piece of that name
pub record EndsWithName (facts : List StateFacts) (n : ℕ) (name : PieceName) : Type 0 where
  pub known : StateFacts
  pub fact : slice_get facts n ≡ Some known
  pub ends : known.ends ≡ Some name

-- whether the two names are one
abbrev pub same_name : PieceName → PieceName → Bool
same_name a b = is_eq (name_cmp a b)

-- the states in which contexts may end on the way with the piece of that name, ascending
pub record AreEndingsWith (m : Machine) (facts : List StateFacts) (w : WayId) (name : PieceName)
    (ns : List ℕ) : Type 0 where
  pub ascending : IsTrue (rises nat_cmp ns)
  pub each : (n : ℕ) → Contains ns n ↔ (IsEnding m facts w n × EndsWithName facts n name)

-- the endings are sorted by their pieces, and those with any one piece have exactly the states in which contexts may
-- end with it, ascending
pub record AreEndings (m : Machine) (facts : List StateFacts) (es : List Ending) : Type 0 where
  pub sorted : IsSortedByKey (λ e. e.piece) name_cmp es
  pub each : (name : PieceName)
      → AreEndingsWith m facts name.way name (map (λ e. e.state) (filter (λ e. same_name e.piece name) es))

-- a context of the piece as it is written before its sources are: the names of the pieces before it, and its arcs
pub record IsBareContext (M : Objects) (P : Rules) (p : Span) (e : Context) : Type 0 where
  pub before : List Span
  pub context : IsContext M P (before ++ p ∷ [])
  pub named : e.before ≡ map name_of before
  pub arcs : Lists (λ a. a.piece) name_cmp (IsArcEntry M P (before ++ p ∷ [])) e.arcs
  pub none : e.sources ≡ []

-- the context of the piece that ends in the state with number n, as it is written before its sources are
pub record IsContextIn (M : Objects) (P : Rules) (m : Machine) (p : Span) (n : ℕ) (e : Context) : Type 0 where
  pub entry : IsBareContext M P p e
  pub longer : entry.before ≡ [] → ⊥
  pub steps : List Step
  pub at : StandsFor m n steps
  pub turn : HasTurnSteps (entry.before ++ p ∷ []) steps

-- each context of the piece is written once, without its sources
pub record HasContexts (M : Objects) (P : Rules) (p : Span) (es : List Context) : Type 0 where
  pub sound : (e : Context) → Contains es e → IsBareContext M P p e
  pub all : (before : List Span) → IsContext M P (before ++ p ∷ []) → (e : Context) × Contains es e
      × (e.before ≡ map name_of before)
  pub distinct : IsDistinct (eq_by_cmp names_cmp) (map (λ e. e.before) es)
