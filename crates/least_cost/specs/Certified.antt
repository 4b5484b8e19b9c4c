-- When numbers at the contexts show that no legal drive between two nodes costs less than a number.
use Rattle.std.specs.Prelude.{◌≡◌, ℕ, ◌+◌, ◌≤◌, List, [], ◌∷◌, length, Option, Some, None, slice_get, take, drop}
use Rattle.road_base.specs.declared.ids.NodeId.{NodeId}
use Rattle.road_base.specs.declared.ids.Step.{Step}
use Rattle.road_base.specs.Objects.{Objects}
use Rattle.road_model.specs.Rules.{Rules}
use Rattle.road_model.specs.Pieces.{Span, IsPiece, spell}
use Rattle.road_model.specs.Network.{IsArc}
use Rattle.context_search.specs.Marks.{At}
use Rattle.context_search.specs.Reaching.{LeadsTo}
use Rattle.context_search.specs.Searching.{BeginsAt, StopsAt, within_piece}
use Rattle.context_search.specs.Sought.{AreSpots, IsSpot}
use Rattle.least_cost.specs.Costs.{cost_of, plus}

-- at most, where none is greater than every number
abbrev pub AtMost : Option ℕ → Option ℕ → Type 0
AtMost a None = Unit {0}
AtMost None (Some n) = ⊥
AtMost (Some m) (Some n) = m ≤ n

-- What shows that C is at most the cost of every legal drive from a to b, and that there is no such drive where C is
-- none: a number at each context, or none, that is at most what can be driven up to the end of the context's last
-- piece, and from which no way to b falls short of C.
pub record Certified (M : Objects) (P : Rules) (a b : NodeId) (C : Option ℕ) (pi : List Span → Option ℕ) : Type 0 where
  -- from a to the end of a piece
  pub begins : (p : Span) (j : ℕ) → IsPiece M P p → BeginsAt M p j a
      → AtMost (pi (p ∷ [])) (cost_of M (drop j (spell p)))
  -- on by an arc
  pub goes_on : (c : List Span) (t : Span) (e : List Span) → IsArc M P c t e
      → AtMost (pi e) (plus (pi c) (cost_of M (spell t)))
  -- by an arc up to b
  pub ends : (c : List Span) (t : Span) (e : List Span) (j : ℕ) → IsArc M P c t e → StopsAt M t j b
      → AtMost C (plus (pi c) (cost_of M (take (j + 1) (spell t))))
  -- from a to b within one piece
  pub within : (p : Span) (i j : ℕ) → IsPiece M P p → BeginsAt M p i a → StopsAt M p j b → i ≤ j
      → AtMost C (cost_of M (within_piece p i j))

-- the list has one entry for each context, in the order of the graph: what pi gives to the context
pub record Agrees (M : Objects) (P : Rules) (list : List (Option ℕ)) (pi : List Span → Option ℕ) : Type 0 where
  pub contexts : List At
  pub are : AreSpots M P contexts
  pub count : length list ≡ length contexts
  pub entries : (n : ℕ) (x : At) (c : List Span) → slice_get contexts n ≡ Some x → IsSpot M P c x
      → slice_get list n ≡ Some (pi c)

-- the list gives to the contexts, in the order of the graph, numbers that show C
pub record IsCertified (M : Objects) (P : Rules) (a b : NodeId) (C : Option ℕ) (list : List (Option ℕ)) : Type 0 where
  pub at : List Span → Option ℕ
  pub agrees : Agrees M P list at
  pub shows : Certified M P a b C at

-- no legal drive from a to b costs less than c
abbrev pub NoneCostsLess : Objects → Rules → NodeId → NodeId → ℕ → Type 0
NoneCostsLess M P a b c = (d : List Step) (n : ℕ) → LeadsTo M P a b d → cost_of M d ≡ Some n → c ≤ n

-- there is no legal drive from a to b
abbrev pub NoneLeads : Objects → Rules → NodeId → NodeId → Type 0
NoneLeads M P a b = (d : List Step) → LeadsTo M P a b d → ⊥

-- no legal drive from a to b costs less than C, and there is none where C is none
abbrev pub IsLeastFor : Objects → Rules → NodeId → NodeId → Option ℕ → Type 0
IsLeastFor M P a b (Some c) = NoneCostsLess M P a b c
IsLeastFor M P a b None = NoneLeads M P a b

-- every legal drive from a to b has a cost
abbrev pub HasCosts : Objects → Rules → NodeId → NodeId → Type 0
HasCosts M P a b = (d : List Step) → LeadsTo M P a b d → (n : ℕ) × (cost_of M d ≡ Some n)

-- the route is a legal drive from a to b, and the list shows that none costs less; or the list shows, where there is no
-- route, that there is none
abbrev pub IsCertificate : Objects → Rules → NodeId → NodeId → Option (List Step) → List (Option ℕ) → Type 0
IsCertificate M P a b (Some d) list = LeadsTo M P a b d × IsCertified M P a b (cost_of M d) list
IsCertificate M P a b None list = IsCertified M P a b None list
