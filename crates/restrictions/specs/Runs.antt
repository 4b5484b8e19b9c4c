-- Ways that are driven whole, one after the other from a node, as functions of that node.
use Rattle.std.specs.Prelude.{◌-◌, Bool, false, cond, ◌&&◌, List, [], ◌∷◌, ◌++◌, length, Option, Some, None}
use Rattle.road_base.specs.declared.ids.NodeId.{NodeId}
use Rattle.road_base.specs.declared.ids.WayId.{WayId}
use Rattle.road_base.specs.declared.ids.Key.{Key}
use Rattle.road_base.specs.declared.ids.Key.TheVariants.{Node as NodeKey, Way as WayKey, Relation as RelationKey}
use Rattle.road_base.specs.declared.ids.Step.{Step}
use Rattle.road_base.specs.declared.ids.Dir.{Dir}
use Rattle.road_base.specs.declared.ids.Dir.TheVariants.{Forward, Backward}
use Rattle.road_base.specs.declared.objects.Relation.{Relation}
use Rattle.road_base.specs.Objects.{Objects}
use Rattle.road_model.specs.Rules.{Rules}
use Rattle.road_model.specs.Lines.{line_of, node_at}
use Rattle.road_model.specs.Driving.{is_open}
use Rattle.road_model.specs.Restrictions.{any_way, same_end, whole_way, froms, tos, some_ends_at}
use Rattle.restrictions.specs.declared.runs.Allowed.{Allowed}
use Rattle.restrictions.specs.declared.runs.Allowed.TheVariants.{AnyWay, OpenWay}

-- the directions of ways that count: all, or those that are open
abbrev pub allows : Objects → Rules → Allowed → WayId → Dir → Bool
allows M P AnyWay = any_way
allows M P OpenWay = is_open M P

abbrev pub first_node : Objects → WayId → Option NodeId
first_node M w = node_at M w 0

abbrev pub last_node : Objects → WayId → Option NodeId
last_node M w = node_at M w (length (line_of M w) - 1)

-- the direction in which a line with these ends is driven from the node, if that is one of them
abbrev pub dir_between : Option NodeId → Option NodeId → Option NodeId → Option Dir
dir_between first last v = cond (same_end first v) (Some Forward) (cond (same_end last v) (Some Backward) None)

abbrev pub dir_from : Objects → WayId → Option NodeId → Option Dir
dir_from M w v = dir_between (first_node M w) (last_node M w) v

abbrev pub end_in : Option NodeId → Option NodeId → Dir → Option NodeId
end_in first last Forward = last
end_in first last Backward = first

-- where one comes out in the direction, if it is allowed
abbrev pub out_of : Objects → (WayId → Dir → Bool) → WayId → Option Dir → Option NodeId
out_of M allowed w None = None
out_of M allowed w (Some d) = cond (allowed w d) (end_in (first_node M w) (last_node M w) d) None

-- the node where one comes out who drives the whole way from the node
abbrev pub across : Objects → (WayId → Dir → Bool) → Key → Option NodeId → Option NodeId
across M allowed (NodeKey n) v = None
across M allowed (WayKey w) v = out_of M allowed w (dir_from M w v)
across M allowed (RelationKey r) v = None

abbrev pub steps_in : Objects → WayId → Option Dir → List Step
steps_in M w None = []
steps_in M w (Some d) = whole_way M w d

-- the steps that one drives then
abbrev pub steps_across : Objects → Key → Option NodeId → List Step
steps_across M (NodeKey n) v = []
steps_across M (WayKey w) v = steps_in M w (dir_from M w v)
steps_across M (RelationKey r) v = []

-- the node where one comes out who drives all the ways, the first from the node
abbrev pub leave_of : Objects → (WayId → Dir → Bool) → List Key → Option NodeId → Option NodeId
leave_of M allowed [] v = v
leave_of M allowed (k ∷ ks) v = leave_of M allowed ks (across M allowed k v)

-- and the steps
abbrev pub steps_of : Objects → (WayId → Dir → Bool) → List Key → Option NodeId → List Step
steps_of M allowed [] v = []
steps_of M allowed (k ∷ ks) v = steps_across M k v ++ steps_of M allowed ks (across M allowed k v)

-- a to way ends at the node
abbrev pub arrives : Objects → Relation → Option NodeId → Bool
arrives M r None = false
arrives M r (Some v) = some_ends_at M (tos r) (v ∷ [])

-- these ways lead from the node, at which a from way ends, to an end of a to way
abbrev pub leads : Objects → (WayId → Dir → Bool) → Relation → List Key → NodeId → Bool
leads M allowed r vs v = some_ends_at M (froms r) (v ∷ []) && arrives M r (leave_of M allowed vs (Some v))

-- the two nodes from which the first way may be driven whole
abbrev pub first_enter : Objects → List Key → Option NodeId
first_enter M [] = None
first_enter M (NodeKey n ∷ ks) = None
first_enter M (WayKey w ∷ ks) = first_node M w
first_enter M (RelationKey r ∷ ks) = None

abbrev pub last_enter : Objects → List Key → Option NodeId
last_enter M [] = None
last_enter M (NodeKey n ∷ ks) = None
last_enter M (WayKey w ∷ ks) = last_node M w
last_enter M (RelationKey r ∷ ks) = None
