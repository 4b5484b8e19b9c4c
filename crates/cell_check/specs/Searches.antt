-- What a round of a search over links finds, and what the search keeps of it.
use Rattle.std.specs.Prelude.{◌≡◌, ℕ, zero, suc, ◌⊎◌, List, [], Some, Contains}
use Rattle.std.specs.BTreeMap.{get}
use Rattle.road_base.specs.declared.ids.Key.{Key}
use Rattle.road_base.specs.declared.ids.Key.TheVariants.{Node as NodeKey, Way as WayKey, Relation as RelationKey}
use Rattle.road_base.specs.Objects.{Objects, key_cmp}
use Rattle.road_model.specs.Links.{IsLink}
use Rattle.cell_check.specs.declared.search.LinkSearch.{LinkSearch}
use Rattle.cell_check.specs.declared.search.Reached.{Reached}

-- ---- what the search keeps

-- the search came to the key from the start
abbrev pub IsAt : LinkSearch → Key → Key → Type 0
IsAt s k start = get key_cmp s.starts k ≡ Some start

-- it did so in the last round
abbrev pub IsNew : LinkSearch → Key → Key → Type 0
IsNew s k start = Contains s.frontier.items (record { key = k; start = start })

-- the search came to the key
abbrev pub HasCome : LinkSearch → Key → Type 0
HasCome s k = (start : Key) × IsAt s k start

-- ---- what a call finds

-- Between s and t the search came to the keys of which the fact holds, each from a start for which it does: those to
-- which it hadn't come before are new.
pub record Finds (s t : LinkSearch) (Is : Key → Key → Type 0) : Type 0 where
  pub sound : (k start : Key) → IsAt t k start → IsAt s k start ⊎ Is k start
  pub complete : (k start : Key) → Is k start → HasCome t k
  pub keeps : (k start : Key) → IsAt s k start → IsAt t k start
  pub new_sound : (k start : Key) → IsNew t k start → IsNew s k start ⊎ Is k start
  pub new_complete : (k start : Key) → IsAt t k start → IsAt s k start ⊎ IsNew t k start
  pub new_keeps : (k start : Key) → IsNew s k start → IsNew t k start

-- the key, from the start
abbrev pub IsOne : Key → Key → Key → Key → Type 0
IsOne key from k start = (k ≡ key) × (start ≡ from)

-- the keys of which the fact holds, from this start
abbrev pub FromStart : Key → (Key → Type 0) → Key → Key → Type 0
FromStart from Is k start = Is k × (start ≡ from)

-- something in the list gives the key
abbrev pub GivenBy : {A : Type 0} → (A → Key → Type 0) → List A → Key → Type 0
GivenBy Gives xs k = (x : _) × Contains xs x × Gives x k

-- something in the list gives the key from the start
abbrev pub GivenFrom : {A : Type 0} → (A → Key → Key → Type 0) → List A → Key → Key → Type 0
GivenFrom Gives xs k start = (x : _) × Contains xs x × Gives x k start

-- the key is a node's or a way's
abbrev pub IsNodeOrWay : Key → Type 0
IsNodeOrWay (NodeKey n) = Unit {0}
IsNodeOrWay (WayKey w) = Unit {0}
IsNodeOrWay (RelationKey r) = ⊥

-- one of these is linked to the key, and was come to from the start
abbrev pub IsLinkedTo : Objects → List Reached → Key → Key → Type 0
IsLinkedTo M frontier = GivenFrom (λ x. FromStart x.start (IsLink M x.key)) frontier

-- ---- the rounds

-- the search has come to the keys alone, each from itself, and they are new
abbrev pub IsBegun : List Key → LinkSearch → Type 0
IsBegun keys s = (e : LinkSearch) × ((k start : Key) → IsAt e k start → ⊥) × (e.frontier.items ≡ [])
    × Finds e s (GivenFrom (λ x. IsOne x x) keys)

-- t is s when it came to all that is linked to what was new in s, and what was so is new no more
abbrev pub IsNext : Objects → LinkSearch → LinkSearch → Type 0
IsNext M s t = (e : LinkSearch) × (e.starts ≡ s.starts) × (e.frontier.items ≡ [])
    × Finds e t (IsLinkedTo M s.frontier.items)

-- t is s when so many rounds more were made
abbrev pub AreRounds : Objects → ℕ → LinkSearch → LinkSearch → Type 0
AreRounds M zero s t = s ≡ t
AreRounds M (suc n) s t = (u : LinkSearch) × AreRounds M n s u × IsNext M u t
