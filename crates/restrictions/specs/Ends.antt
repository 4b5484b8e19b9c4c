-- The end steps of ways into a node or out of it, as lists.
use Rattle.std.specs.Prelude.{◌-◌, nat_eq, nat_le, Bool, cond, ◌&&◌, List, [], ◌∷◌, ◌++◌, length, Option}
use Rattle.std.specs.Prelude.{Some, None}
use Rattle.std.specs.Ordering.{int_eq}
use Rattle.std.specs.List.{list_any}
use Rattle.road_base.specs.declared.ids.NodeId.{NodeId}
use Rattle.road_base.specs.declared.ids.WayId.{WayId}
use Rattle.road_base.specs.declared.ids.Key.{Key}
use Rattle.road_base.specs.declared.ids.Key.TheVariants.{Node as NodeKey, Way as WayKey, Relation as RelationKey}
use Rattle.road_base.specs.declared.ids.Step.{Step}
use Rattle.road_base.specs.declared.ids.Dir.{Dir}
use Rattle.road_base.specs.declared.ids.Dir.TheVariants.{Forward, Backward}
use Rattle.road_base.specs.Objects.{Objects}
use Rattle.road_model.specs.Lines.{line_of}
use Rattle.road_model.specs.Orders.{same_dir}
use Rattle.road_model.specs.Restrictions.{same_end}
use Rattle.road_model.specs.Words.{IsEndInto, IsEndFrom}
use Rattle.restrictions.specs.declared.end_steps.Side.{Side}
use Rattle.restrictions.specs.declared.end_steps.Side.TheVariants.{Into, OutOf}
use Rattle.restrictions.specs.Runs.{first_node, last_node}

-- an end step of the way into the node, or out of it
abbrev pub IsEnd : Objects → Side → WayId → NodeId → Step → Type 0
IsEnd M Into w v s = IsEndInto M w v s
IsEnd M OutOf w v s = IsEndFrom M w v s

-- the directions of the end steps at the beginning and at the end of a line
abbrev pub first_dir : Side → Dir
first_dir Into = Backward
first_dir OutOf = Forward

abbrev pub last_dir : Side → Dir
last_dir Into = Forward
last_dir OutOf = Backward

-- the end step at the beginning of the way's line, if that is the node and another one stands behind it
abbrev pub first_end : Objects → Side → WayId → NodeId → Option Step
first_end M side w v =
    cond (nat_le 2 (length (line_of M w)) && same_end (first_node M w) (Some v))
    (Some (record { way = w; index = 0; dir = first_dir side })) None

-- the one at the end of the line
abbrev pub last_end : Objects → Side → WayId → NodeId → Option Step
last_end M side w v = cond (nat_le 2 (length (line_of M w)) && same_end (last_node M w) (Some v))
    (Some (record { way = w; index = length (line_of M w) - 2; dir = last_dir side })) None

abbrev pub same_step : Step → Step → Bool
same_step a b = int_eq a.way.0 b.way.0 && (nat_eq a.index b.index && same_dir a.dir b.dir)

-- the list with the step behind it, if there is one that isn't there yet
abbrev pub added : List Step → Option Step → List Step
added xs None = xs
added xs (Some s) = cond (list_any (same_step s) xs) xs (xs ++ s ∷ [])

abbrev pub with_ends : Objects → Side → NodeId → List Step → Key → List Step
with_ends M side v xs (NodeKey n) = xs
with_ends M side v xs (WayKey w) = added (added xs (first_end M side w v)) (last_end M side w v)
with_ends M side v xs (RelationKey r) = xs

-- the list with the end steps of these ways behind it, each once
abbrev pub ends_of : Objects → Side → NodeId → List Key → List Step → List Step
ends_of M side v [] xs = xs
ends_of M side v (k ∷ ks) xs = ends_of M side v ks (with_ends M side v xs k)
