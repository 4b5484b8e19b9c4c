-- The orders of names.
use Rattle.std.specs.Prelude.{List, length, Bool, true, false}
use Rattle.std.specs.Ordering.{nat_cmp, int_cmp, ordering_then}
use Rattle.std.specs.declared.cmp.Ordering.{Ordering}
use Rattle.std.specs.declared.cmp.Ordering.TheVariants.{Less, Equal, Greater}
use Rattle.std.specs.Cmp.Lexicographic.{slice_cmp}
use Rattle.road_base.specs.declared.ids.NodeId.{NodeId}
use Rattle.road_base.specs.declared.ids.WayId.{WayId}
use Rattle.road_base.specs.declared.ids.RelationId.{RelationId}
use Rattle.road_base.specs.declared.ids.Dir.{Dir}
use Rattle.road_base.specs.declared.ids.Dir.TheVariants.{Forward, Backward}
use Rattle.road_model.specs.declared.lists.PieceName.{PieceName}

abbrev pub node_cmp : NodeId → NodeId → Ordering
node_cmp a b = int_cmp a.0 b.0

abbrev pub way_cmp : WayId → WayId → Ordering
way_cmp a b = int_cmp a.0 b.0

abbrev pub relation_cmp : RelationId → RelationId → Ordering
relation_cmp a b = int_cmp a.0 b.0

abbrev pub dir_cmp : Dir → Dir → Ordering
dir_cmp Forward Forward = Equal
dir_cmp Forward Backward = Less
dir_cmp Backward Forward = Greater
dir_cmp Backward Backward = Equal

-- the two directions are one
abbrev pub same_dir : Dir → Dir → Bool
same_dir Forward Forward = true
same_dir Forward Backward = false
same_dir Backward Forward = false
same_dir Backward Backward = true

-- by way, then position, then direction
abbrev pub name_cmp : PieceName → PieceName → Ordering
name_cmp a b = ordering_then (way_cmp a.way b.way) (ordering_then (nat_cmp a.index b.index) (dir_cmp a.dir b.dir))

-- by length, then name by name
abbrev pub names_cmp : List PieceName → List PieceName → Ordering
names_cmp a b = ordering_then (nat_cmp (length a) (length b)) (slice_cmp name_cmp a b)
