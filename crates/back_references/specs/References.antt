-- The references that an event holds.
use Rattle.std.specs.Prelude.{List, [], ◌∷◌, map, cond, Some, None}
use Rattle.std.specs.FinMap.{get}
use Rattle.std.specs.List.{flat_map}
use Rattle.road_base.specs.declared.ids.NodeId.{NodeId}
use Rattle.road_base.specs.declared.ids.WayId.{WayId}
use Rattle.road_base.specs.declared.ids.RelationId.{RelationId}
use Rattle.road_base.specs.declared.ids.Key.{Key}
use Rattle.road_base.specs.declared.ids.Key.TheVariants.{Node as NodeKey, Way as WayKey, Relation as RelationKey}
use Rattle.road_base.specs.declared.objects.Member.{Member}
use Rattle.road_base.specs.declared.objects.Body.{Body}
use Rattle.road_base.specs.declared.objects.Body.TheVariants.{Node as NodeBody, Way as WayBody}
use Rattle.road_base.specs.declared.objects.Body.TheVariants.{Relation as RelationBody, Deleted}
use Rattle.road_base.specs.declared.event.Event.{Event}
use Rattle.road_base.specs.Objects.{Objects}
use Rattle.road_model.specs.Rules.{has_highway, is_restriction}

-- the nodes to which a visible way with the key `highway` refers
abbrev pub highway_nodes : Body → List NodeId
highway_nodes (NodeBody n) = []
highway_nodes (WayBody w) = cond (has_highway w.tags) w.refs []
highway_nodes (RelationBody r) = []
highway_nodes Deleted = []

-- the members of a visible restriction
abbrev pub rule_members : Body → List Member
rule_members (NodeBody n) = []
rule_members (WayBody w) = []
rule_members (RelationBody r) = cond (is_restriction r.tags) r.members []
rule_members Deleted = []

-- each with the way of the key
abbrev pub with_way : Key → List NodeId → List (NodeId × WayId)
with_way (NodeKey n) nodes = []
with_way (WayKey w) nodes = map (λ n. (n, w)) nodes
with_way (RelationKey r) nodes = []

-- the nodes to which the event's way refers, each with the way
abbrev pub way_references : Event → List (NodeId × WayId)
way_references e = with_way e.key (highway_nodes e.body)

-- a member that is a node, with its relation
abbrev pub node_pair : RelationId → Key → List (NodeId × RelationId)
node_pair r (NodeKey n) = (n, r) ∷ []
node_pair r (WayKey w) = []
node_pair r (RelationKey q) = []

-- a member that is a way, with its relation
abbrev pub way_pair : RelationId → Key → List (WayId × RelationId)
way_pair r (NodeKey n) = []
way_pair r (WayKey w) = (w, r) ∷ []
way_pair r (RelationKey q) = []

abbrev pub nodes_with_rule : Key → List Member → List (NodeId × RelationId)
nodes_with_rule (NodeKey n) members = []
nodes_with_rule (WayKey w) members = []
nodes_with_rule (RelationKey r) members = flat_map (λ m. node_pair r m.item) members

abbrev pub ways_with_rule : Key → List Member → List (WayId × RelationId)
ways_with_rule (NodeKey n) members = []
ways_with_rule (WayKey w) members = []
ways_with_rule (RelationKey r) members = flat_map (λ m. way_pair r m.item) members

-- the nodes that are members of the event's restriction, each with the restriction
abbrev pub node_rules : Event → List (NodeId × RelationId)
node_rules e = nodes_with_rule e.key (rule_members e.body)

-- the ways that are members of the event's restriction, each with the restriction
abbrev pub way_rules : Event → List (WayId × RelationId)
way_rules e = ways_with_rule e.key (rule_members e.body)

-- what the pairs of a key are by its entry
abbrev pub pairs_at : {A : Type 0} → (Key → Body → List A) → Objects → Key → List A
pairs_at pairs M k = elim (get M k) [ None ↦ [] | Some entry ↦ pairs k entry.body ]

-- the pairs of the key in the map
abbrev pub way_references_at : Objects → Key → List (NodeId × WayId)
way_references_at = pairs_at (λ k body. with_way k (highway_nodes body))

abbrev pub node_rules_at : Objects → Key → List (NodeId × RelationId)
node_rules_at = pairs_at (λ k body. nodes_with_rule k (rule_members body))

abbrev pub way_rules_at : Objects → Key → List (WayId × RelationId)
way_rules_at = pairs_at (λ k body. ways_with_rule k (rule_members body))
