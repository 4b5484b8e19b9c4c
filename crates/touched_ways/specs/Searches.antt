-- What a round of a search over links finds, and what the search keeps of it.
use Rattle.std.specs.Prelude.{◌≡◌, ◌↔◌, ℕ, zero, suc, ◌⊎◌, IsTrue, List, Contains}
use Rattle.std.specs.BTreeSet.{BTreeSet, contains}
use Rattle.road_base.specs.declared.ids.NodeId.{NodeId}
use Rattle.road_base.specs.declared.ids.WayId.{WayId}
use Rattle.road_base.specs.declared.ids.Key.{Key}
use Rattle.road_base.specs.declared.ids.Key.TheVariants.{Node as NodeKey, Way as WayKey, Relation as RelationKey}
use Rattle.road_base.specs.Objects.{Objects}
use Rattle.road_model.specs.Orders.{node_cmp}
use Rattle.road_model.specs.Links.{IsLink}
use Rattle.touched_ways.specs.declared.found.Reached.{Reached}
use Rattle.touched_ways.specs.declared.search.LinkSearch.{LinkSearch}

-- the rest has nothing but what the list has, and lacks nothing of it but what is gone
pub record IsRest {T : Type 0} (list gone rest : List T) : Type 0 where
  pub sound : (x : T) → Contains rest x → Contains list x
  pub complete : (x : T) → Contains list x → Contains rest x ⊎ Contains gone x

-- ---- what a round finds

-- the key was found
abbrev pub IsFound : Reached → Key → Type 0
IsFound f (NodeKey n) = Contains f.nodes.items n
IsFound f (WayKey w) = Contains f.ways.list.items w
IsFound f (RelationKey r) = Contains f.rules.items r

-- between f and g exactly the keys of which the fact holds were found
pub record Finds (f g : Reached) (Is : Key → Type 0) : Type 0 where
  pub sound : (k : Key) → IsFound g k → IsFound f k ⊎ Is k
  pub complete : (k : Key) → Is k → IsFound g k
  pub keeps : (k : Key) → IsFound f k → IsFound g k

-- something in the list gives the key
abbrev pub GivenBy : {A : Type 0} → (A → Key → Type 0) → List A → Key → Type 0
GivenBy Gives xs k = (x : _) × Contains xs x × Gives x k

-- the key is a node's or a way's
abbrev pub IsNodeOrWay : Key → Type 0
IsNodeOrWay (NodeKey n) = Unit {0}
IsNodeOrWay (WayKey w) = Unit {0}
IsNodeOrWay (RelationKey r) = ⊥

-- the key is a way's
abbrev pub IsWay : Key → Type 0
IsWay (NodeKey n) = ⊥
IsWay (WayKey w) = Unit {0}
IsWay (RelationKey r) = ⊥

-- the second key is a way's, and linked to the first
abbrev pub IsWayLink : Objects → Key → Key → Type 0
IsWayLink M a b = IsLink M a b × IsWay b

-- all that these hubs are linked to was found
abbrev pub AreFollowed : (Key → Key → Type 0) → BTreeSet NodeId → Reached → Type 0
AreFollowed Link hubs f =
    (n : NodeId) → IsTrue (contains node_cmp hubs n) → (k : Key) → Link (NodeKey n) k → IsFound f k

-- ---- what the search keeps

-- the key's links are followed next: it was found in the last round, and if it is no node's, was new then
abbrev pub IsFrontier : LinkSearch → Key → Type 0
IsFrontier s (NodeKey n) = Contains s.nodes.items n
IsFrontier s (WayKey w) = Contains s.ways.frontier.items w
IsFrontier s (RelationKey r) = Contains s.rules.frontier.items r

-- the key is that of a way or restriction that was seen
abbrev pub IsSeen : LinkSearch → Key → Type 0
IsSeen s (NodeKey n) = ⊥
IsSeen s (WayKey w) = Contains s.ways.all.items w
IsSeen s (RelationKey r) = Contains s.rules.all.items r

-- t is s when the keys of which the fact holds were taken in: each of them is on the frontier, or had been seen
pub record IsNext (s t : LinkSearch) (Is : Key → Type 0) : Type 0 where
  pub sound : (k : Key) → IsFrontier t k → Is k
  pub complete : (k : Key) → Is k → IsFrontier t k ⊎ IsSeen s k
  pub seen : (k : Key) → IsSeen t k → IsSeen s k ⊎ IsFrontier t k
  pub ways : (w : WayId) → IsSeen s (WayKey w) ⊎ IsFrontier t (WayKey w) → IsSeen t (WayKey w)

-- something on the frontier is linked to the key
abbrev pub IsFurther : Objects → LinkSearch → Key → Type 0
IsFurther M s k = (a : Key) × IsFrontier s a × IsLink M a k

-- something on the frontier is linked to the key in M or in N
abbrev pub IsFurtherInOne : Objects → Objects → LinkSearch → Key → Type 0
IsFurtherInOne M N s k = IsFurther M s k ⊎ IsFurther N s k

-- the search has seen the keys alone, and their links are followed next
pub record IsBegun (keys : List Key) (s : LinkSearch) : Type 0 where
  pub frontier : (k : Key) → IsFrontier s k ↔ Contains keys k
  pub seen : (k : Key) → IsSeen s k → Contains keys k
  pub ways : (w : WayId) → Contains keys (WayKey w) → IsSeen s (WayKey w)

-- t is s when so many rounds more were made, each of which took in what is linked to the frontier
abbrev pub AreRounds : Objects → ℕ → LinkSearch → LinkSearch → Type 0
AreRounds M zero s t = s ≡ t
AreRounds M (suc n) s t = (u : LinkSearch) × AreRounds M n s u × IsNext u t (IsFurther M u)
