-- Walks over contexts and arcs in phases, and the drives from node to node that they lead along.
use Rattle.std.specs.Prelude.{◌≡◌, ◌⊎◌, ℕ, ◌≤◌, List, [], ◌∷◌, ◌++◌, Some, Bool, IsTrue, IsFalse}
use Rattle.road_base.specs.declared.ids.NodeId.{NodeId}
use Rattle.road_base.specs.declared.ids.Step.{Step}
use Rattle.road_base.specs.Objects.{Objects}
use Rattle.road_model.specs.Rules.{Rules}
use Rattle.road_model.specs.Driving.{located, is_marked}
use Rattle.road_model.specs.Pieces.{Span, IsPiece}
use Rattle.road_model.specs.Network.{IsArc}
use Rattle.context_search.specs.declared.found.Found.{Found}
use Rattle.context_search.specs.declared.found.Found.TheVariants.{Drive, NoNode, Nowhere}
use Rattle.context_search.specs.Phases.{PhaseRules}
use Rattle.context_search.specs.Searching.{BeginsAt, StopsAt, within_piece, along_pieces}

-- whether the piece is marked as one of a zone
abbrev pub mark_of : Objects → Rules → Span → Bool
mark_of M P p = is_marked M P p.way p.dir

-- The pieces d are those of a walk that has come to context c in phase f: it starts at a context of one piece, in the
-- phase in which walks start with its mark, and follows arcs by whose pieces its phase goes on.
pub data WalksIn (M : Objects) (P : Rules) (F : PhaseRules) : List Span → List Span → ℕ → Type 0 where
  Start : {d c : List Span} {f : ℕ} (p : Span) → IsPiece M P p → f ≡ F.start (mark_of M P p) → d ≡ p ∷ []
      → c ≡ p ∷ [] → WalksIn M P F d c f
  Go : {d c : List Span} {f : ℕ} (e b : List Span) (g : ℕ) (t : Span) → WalksIn M P F e b g → IsArc M P b t c
      → F.go g (mark_of M P t) ≡ Some f → d ≡ e ++ t ∷ [] → WalksIn M P F d c f

-- The drive from a to b lies within one piece, or leads over the pieces of a walk in phases, the first from some step
-- on, and up to some step of one more piece by an arc, by which the walk's phase goes on.
pub data LeadsIn (M : Objects) (P : Rules) (F : PhaseRules) (a b : NodeId) (d : List Step) : Type 0 where
  InOne : (p : Span) (i j : ℕ) → IsPiece M P p → BeginsAt M p i a → StopsAt M p j b → i ≤ j → d ≡ within_piece p i j
      → LeadsIn M P F a b d
  OnMany : (p : Span) (i : ℕ) (whole c : List Span) (f : ℕ) (t : Span) (j : ℕ) (e : List Span) (g : ℕ)
      → WalksIn M P F (p ∷ whole) c f → IsArc M P c t e → F.go f (mark_of M P t) ≡ Some g → BeginsAt M p i a
      → StopsAt M t j b → d ≡ along_pieces p i whole t j → LeadsIn M P F a b d

-- Some such drive; or the first of the two nodes that isn't visible or has no location; or that both have one, and
-- there is no such drive.
abbrev pub IsFoundIn : Objects → Rules → PhaseRules → NodeId → NodeId → Found → Type 0
IsFoundIn M P F a b (Drive d) = LeadsIn M P F a b d
IsFoundIn M P F a b (NoNode v) = IsFalse (located M (Some v)) × ((v ≡ a) ⊎ ((v ≡ b) × IsTrue (located M (Some a))))
IsFoundIn M P F a b Nowhere = IsTrue (located M (Some a)) × IsTrue (located M (Some b))
    × ((d : List Step) → LeadsIn M P F a b d → ⊥)
