-- What is known of the states of an automaton on the map.
use Rattle.std.specs.Prelude.{◌≡◌, ℕ, ◌↔◌, List, [], ◌∷◌, ◌++◌, length, Some, IsTrue, Contains, slice_get}
use Rattle.road_base.specs.declared.ids.WayId.{WayId}
use Rattle.road_base.specs.declared.ids.Step.{Step}
use Rattle.road_base.specs.Objects.{Objects}
use Rattle.road_model.specs.declared.lists.PieceName.{PieceName}
use Rattle.road_model.specs.Rules.{Rules}
use Rattle.road_model.specs.Pieces.{Span, IsPiece}
use Rattle.road_model.specs.Contexts.{Every}
use Rattle.road_model.specs.Network.{Legal}
use Rattle.road_model.specs.Turning.{HasTurnSteps, EndsPiece}
use Rattle.restrictions.specs.declared.word_list.Word.{Word}
use Rattle.expanded_graph.specs.declared.states.StateFacts.{StateFacts}
use Rattle.expanded_graph.specs.Near.{IsStepNear, AreWordsNear}

-- what is said of the state with the list q
pub record AreFacts (M : Objects) (P : Rules) (w : WayId) (q : List Step) (f : StateFacts) : Type 0 where
  -- whether it may be driven, where all its steps are near w
  pub legal : (q ≡ [] → ⊥) → ((s : Step) → Contains q s → IsStepNear M P w s) → IsTrue f.is_legal ↔ Legal M P q
  -- the piece that its last step ends
  pub ends : (b : List Step) (x : Step) → q ≡ b ++ x ∷ [] → (n : PieceName) → (f.ends ≡ Some n) ↔ EndsPiece M P x n
  -- how many pieces it spells
  pub pieces : (c : List Span) → Every (IsPiece M P) c → HasTurnSteps c q → f.pieces ≡ length c
  pub none : q ≡ [] → f.pieces ≡ 0

-- an automaton of words, among them those near w, and the facts of its states
pub record AreStates (M : Objects) (P : Rules) (w : WayId) (W : List Word) (lists : List (List Step))
    (facts : List StateFacts) : Type 0 where
  pub words : AreWordsNear M P w W
  pub count : length facts ≡ length lists
  pub each : (n : ℕ) (q : List Step) (f : StateFacts) → slice_get lists n ≡ Some q → slice_get facts n ≡ Some f
      → AreFacts M P w q f
