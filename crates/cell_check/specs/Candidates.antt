-- The keys that have to be closed where a way passes.
use Rattle.std.specs.Prelude.{◌≡◌, ◌⊎◌, List, [], ◌∷◌, ◌++◌, map, cond, Some, IsTrue}
use Rattle.std.specs.FinMap.{get}
use Rattle.road_base.specs.declared.ids.NodeId.{NodeId}
use Rattle.road_base.specs.declared.ids.WayId.{WayId}
use Rattle.road_base.specs.declared.ids.RelationId.{RelationId}
use Rattle.road_base.specs.declared.ids.Key.{Key}
use Rattle.road_base.specs.declared.ids.Key.TheVariants.{Node as NodeKey, Way as WayKey, Relation as RelationKey}
use Rattle.road_base.specs.declared.objects.Way.{Way}
use Rattle.road_base.specs.declared.objects.Body.{Body}
use Rattle.road_base.specs.declared.objects.Body.TheVariants.{Node as NodeBody, Way as WayBody}
use Rattle.road_base.specs.declared.objects.Body.TheVariants.{Relation as RelationBody, Deleted}
use Rattle.road_base.specs.declared.event.Event.{Event}
use Rattle.road_base.specs.Objects.{Objects, way_of}
use Rattle.road_base.specs.Applying.{entry_of}
use Rattle.road_model.specs.Rules.{has_highway, is_restriction}
use Rattle.road_model.specs.Highways.{IsHighway}
use Rattle.road_model.specs.Links.{IsLink}

-- something is linked to the key, or it is that of a visible way with the key `highway`
abbrev pub IsCandidate : Objects → Key → Type 0
IsCandidate M k = ((c : Key) × IsLink M k c) ⊎ ((w : WayId) × (k ≡ WayKey w) × IsHighway M w)

-- the entry is the map's
abbrev pub IsEntryIn : Objects → Event → Type 0
IsEntryIn M e = get M e.key ≡ Some (entry_of e)

-- the way is visible, has the key `highway`, and has these nodes
pub record IsHighwayIn (M : Objects) (w : WayId) (nodes : List NodeId) : Type 0 where
  pub body : Way
  pub is : way_of M w ≡ Some body
  pub tagged : IsTrue (has_highway body.tags)
  pub nodes_are : nodes ≡ body.refs

-- the keys of the nodes of a way, and its own
abbrev pub names_of_highway : WayId → List NodeId → List Key
names_of_highway w nodes = map (λ n. NodeKey n) nodes ++ WayKey w ∷ []

-- the same, where the body is that of a way with the key `highway`
abbrev pub names_of_way : WayId → Body → List Key
names_of_way w (NodeBody n) = []
names_of_way w (WayBody b) = cond (has_highway b.tags) (names_of_highway w b.refs) []
names_of_way w (RelationBody r) = []
names_of_way w Deleted = []

-- the relation's key, with those of its members, where the body is that of a restriction
abbrev pub names_of_rule : RelationId → Body → List Key
names_of_rule r (NodeBody n) = []
names_of_rule r (WayBody w) = []
names_of_rule r (RelationBody b) = cond (is_restriction b.tags) (RelationKey r ∷ map (λ m. m.item) b.members) []
names_of_rule r Deleted = []

abbrev pub highway_names : Key → Body → List Key
highway_names (NodeKey n) body = []
highway_names (WayKey w) body = names_of_way w body
highway_names (RelationKey r) body = []

abbrev pub restriction_names : Key → Body → List Key
restriction_names (NodeKey n) body = []
restriction_names (WayKey w) body = []
restriction_names (RelationKey r) body = names_of_rule r body

-- what the entry names as a visible highway, with its own key
abbrev pub named_by_highway : Event → List Key
named_by_highway e = highway_names e.key e.body

-- and as a visible restriction
abbrev pub named_by_restriction : Event → List Key
named_by_restriction e = restriction_names e.key e.body
