-- Links between objects, what is within some number of links, and the ways that a change touches. Of these
-- definitions the contracts speak of references, members and changed keys; the others say which blocks a change may
-- alter.
use Rattle.std.specs.Prelude.{◌≡◌, ℕ, zero, suc, ◌⊎◌, List, Some, IsTrue, Contains, map}
use Rattle.road_base.specs.declared.ids.NodeId.{NodeId}
use Rattle.road_base.specs.declared.ids.WayId.{WayId}
use Rattle.road_base.specs.declared.ids.RelationId.{RelationId}
use Rattle.road_base.specs.declared.ids.Key.{Key}
use Rattle.road_base.specs.declared.ids.Key.TheVariants.{Node as NodeKey, Way as WayKey, Relation as RelationKey}
use Rattle.road_base.specs.declared.objects.Way.{Way}
use Rattle.road_base.specs.declared.objects.Relation.{Relation}
use Rattle.road_base.specs.Objects.{Objects, key_cmp, visible, way_of, relation_of}
use Rattle.road_model.specs.Rules.{has_highway, is_restriction}
use Rattle.ordered_lists.specs.Orders.{Lists}
use Rattle.road_model.specs.Orders.{way_cmp}

-- a visible way with the key `highway` refers to the node
pub record RefersTo (M : Objects) (w : WayId) (n : NodeId) : Type 0 where
  pub body : Way
  pub is : way_of M w ≡ Some body
  pub highway : IsTrue (has_highway body.tags)
  pub member : Contains body.refs n

-- a visible restriction has the object as a member
pub record HasMember (M : Objects) (r : RelationId) (k : Key) : Type 0 where
  pub body : Relation
  pub is : relation_of M r ≡ Some body
  pub restriction : IsTrue (is_restriction body.tags)
  pub member : Contains (map (λ m. m.item) body.members) k

-- the two keys are linked: a way and a node that it refers to, or a restriction and a node or way that is its member;
-- the node, or the member, needn't be visible
abbrev pub IsLink : Objects → Key → Key → Type 0
IsLink M (NodeKey n) (NodeKey m) = ⊥
IsLink M (NodeKey n) (WayKey w) = RefersTo M w n
IsLink M (NodeKey n) (RelationKey r) = HasMember M r (NodeKey n)
IsLink M (WayKey w) (NodeKey n) = RefersTo M w n
IsLink M (WayKey w) (WayKey v) = ⊥
IsLink M (WayKey w) (RelationKey r) = HasMember M r (WayKey w)
IsLink M (RelationKey r) (NodeKey n) = HasMember M r (NodeKey n)
IsLink M (RelationKey r) (WayKey w) = HasMember M r (WayKey w)
IsLink M (RelationKey r) (RelationKey q) = ⊥

-- b is within n links of a
abbrev pub IsWithin : Objects → ℕ → Key → Key → Type 0
IsWithin M zero a b = a ≡ b
IsWithin M (suc n) a b = IsWithin M n a b ⊎ ((c : Key) × IsWithin M n a c × IsLink M c b)

-- the visible body of the key differs between M and N
abbrev pub Differs : Objects → Objects → Key → Type 0
Differs M N k = ¬ (visible M k ≡ visible N k)

-- the keys whose visible body differs between M and N, ascending
abbrev pub AreChanged : Objects → Objects → List Key → Type 0
AreChanged M N keys = Lists (λ k. k) key_cmp (Differs M N) keys

-- how many links lead from a changed key to a way at most, if the change may alter the way's block
abbrev pub link_radius : ℕ
link_radius = 8

-- the way, visible or not, is within the link radius of the key
abbrev pub IsNear : Objects → Key → WayId → Type 0
IsNear M k w = IsWithin M link_radius k (WayKey w)

-- the ways within the link radius of one of the keys, ascending
abbrev pub AreReached : Objects → List Key → List WayId → Type 0
AreReached M keys ways = Lists (λ w. w) way_cmp (λ w. (k : Key) × Contains keys k × IsNear M k w) ways

-- the way is within the link radius, in M or in N, of a key whose visible body differs between them
abbrev pub IsTouched : Objects → Objects → WayId → Type 0
IsTouched M N w = (k : Key) × Differs M N k × (IsNear M k w ⊎ IsNear N k w)

-- the touched ways, ascending
abbrev pub AreTouched : Objects → Objects → List WayId → Type 0
AreTouched M N ways = Lists (λ w. w) way_cmp (IsTouched M N) ways
