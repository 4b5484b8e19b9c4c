-- What is gathered on the way to the words near ways, and to the facts of states.
use Rattle.std.specs.Prelude.{
  ◌≡◌,
  ℕ,
  ◌≤◌,
  ◌↔◌,
  ◌⊎◌,
  List,
  [],
  ◌∷◌,
  ◌++◌,
  length,
  filter_map,
  Bool,
  Option,
  Some,
  IsTrue,
  Contains,
  slice_get,
}
use Rattle.std.specs.List.{All}
use Rattle.road_base.specs.declared.ids.WayId.{WayId}
use Rattle.road_base.specs.declared.ids.RelationId.{RelationId}
use Rattle.road_base.specs.declared.ids.Step.{Step}
use Rattle.road_base.specs.declared.ids.Key.TheVariants.{Way as WayKey}
use Rattle.road_base.specs.Objects.{Objects}
use Rattle.road_model.specs.declared.lists.PieceName.{PieceName}
use Rattle.road_model.specs.Rules.{Rules}
use Rattle.road_model.specs.Pieces.{spell}
use Rattle.road_model.specs.Links.{HasMember}
use Rattle.road_model.specs.Network.{Legal}
use Rattle.road_model.specs.Turning.{EndsPiece}
use Rattle.restrictions.specs.declared.word_list.Word.{Word}
use Rattle.restrictions.specs.Words.{IsRestriction, IsWordOf}
use Rattle.turn_automata.specs.Machines.{Machine, StandsFor}
use Rattle.way_pieces.specs.declared.spans.PieceSpan.{PieceSpan}
use Rattle.way_pieces.specs.Names.{piece_of}
use Rattle.expanded_graph.specs.declared.states.StateFacts.{StateFacts}
use Rattle.expanded_graph.specs.Near.{IsStepNear, AreWordsNear}

-- ---- words

-- words of these restrictions alone, and all of them
pub record AreWordsOf (M : Objects) (P : Rules) (rs : List RelationId) (words : List Word) : Type 0 where
  pub sound : (u : Word) → Contains words u → Contains rs u.relation × IsWordOf M P u.relation u
  pub all : (u : Word) → Contains rs u.relation → IsWordOf M P u.relation u → Contains words u

-- the list has got the words of the restriction, and nothing else, behind those that it had
pub record GainsWords (M : Objects) (P : Rules) (r : RelationId) (old new : List Word) : Type 0 where
  pub more : List Word
  pub appended : new ≡ old ++ more
  pub exactly : (u : Word) → Contains more u ↔ IsWordOf M P r u

-- the list has got all that were asked for but some that are known, and nothing else
pub record GainsApart {X : Type 0} (known : List X) (Asked : X → Type 0) (old new : List X) : Type 0 where
  pub kept : (x : X) → Contains old x → Contains new x
  pub apart : (x : X) → Asked x → Contains known x ⊎ Contains new x
  pub others : (x : X) → Contains new x → Contains old x ⊎ Asked x

-- the way is a member of the restriction
abbrev pub IsOn : Objects → WayId → RelationId → Type 0
IsOn M v r = HasMember M r (WayKey v)

-- restrictions of which one of the ways is a member
abbrev pub IsOnSome : Objects → List WayId → RelationId → Type 0
IsOnSome M ways r = (w : WayId) × Contains ways w × IsOn M w r

-- restrictions, and among them all but some of the known ones of which one of the ways is a member
pub record AreRelationsOn (M : Objects) (ways : List WayId) (known rs : List RelationId) : Type 0 where
  pub sound : All (IsRestriction M) rs
  pub complete : (w : WayId) (r : RelationId) → Contains ways w → IsOn M w r → Contains known r ⊎ Contains rs r

-- ---- states

-- the option has the name of the piece that the step ends, if there is one
abbrev pub NamesEnd : Objects → Rules → Step → Option PieceName → Type 0
NamesEnd M P s name = (n : PieceName) → (name ≡ Some n) ↔ EndsPiece M P s n

-- the span ends with the step
abbrev pub IsLastOf : PieceSpan → Step → Type 0
IsLastOf s x = (front : List Step) × (spell (piece_of s) ≡ front ++ x ∷ [])

-- whether the steps may be driven, told by the words near a way where the steps are near it
abbrev pub IsDriven : Objects → Rules → List Word → List Step → Bool → Type 0
IsDriven M P words q drives =
    (w : WayId) → AreWordsNear M P w words → ((s : Step) → Contains q s → IsStepNear M P w s)
    → IsTrue drives ↔ Legal M P q

-- What is known of the state with the list q: each of its steps ends a piece or doesn't, and the pieces are as many as
-- the steps that do.
pub record IsKnown (M : Objects) (P : Rules) (words : List Word) (q : List Step) (f : StateFacts) : Type 0 where
  pub driven : IsDriven M P words q f.is_legal
  pub ends : (b : List Step) (x : Step) → q ≡ b ++ x ∷ [] → NamesEnd M P x f.ends
  pub named : (s : Step) → Contains q s → (name : Option PieceName) × NamesEnd M P s name
  pub counted : (name : Step → Option PieceName) → ((s : Step) → Contains q s → NamesEnd M P s (name s))
      → f.pieces ≡ length (filter_map name q)

-- what is known of the states that have facts
abbrev pub AreKnown : Objects → Rules → Machine → List StateFacts → Type 0
AreKnown M P m facts =
    (n : ℕ) (q : List Step) (f : StateFacts) → StandsFor m n q → slice_get facts n ≡ Some f → IsKnown M P m.words q f

-- no list has more steps than a word may have
abbrev pub AreAllShort : List (List Step) → Type 0
AreAllShort lists = (q : List Step) → Contains lists q → length q ≤ 1026
