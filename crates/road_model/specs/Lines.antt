-- The line of a way, and what the steps of it are.
use Rattle.std.specs.Prelude.{ℕ, zero, suc, ◌+◌, List, [], ◌∷◌, Option, Some, None, Bool, cond, slice_get, nat_lt}
use Rattle.std.specs.Prelude.{length}
use Rattle.std.specs.Ordering.{int_eq}
use Rattle.road_base.specs.declared.ids.NodeId.{NodeId}
use Rattle.road_base.specs.declared.ids.WayId.{WayId}
use Rattle.road_base.specs.declared.ids.Step.{Step}
use Rattle.road_base.specs.declared.ids.Dir.{Dir}
use Rattle.road_base.specs.declared.ids.Dir.TheVariants.{Forward, Backward}
use Rattle.road_base.specs.declared.objects.Way.{Way}
use Rattle.road_base.specs.Objects.{Objects, way_of}

abbrev pub same_node : NodeId → NodeId → Bool
same_node a b = int_eq a.0 b.0

-- the list without what repeats the one before, which was x
abbrev pub changes_from : NodeId → List NodeId → List NodeId
changes_from x [] = []
changes_from x (y ∷ ys) = cond (same_node x y) (changes_from x ys) (y ∷ changes_from y ys)

-- the list with consecutive repeats dropped
abbrev pub changes : List NodeId → List NodeId
changes [] = []
changes (x ∷ xs) = x ∷ changes_from x xs

abbrev pub refs_of : Option Way → List NodeId
refs_of None = []
refs_of (Some w) = w.refs

-- the line of a way: its references with consecutive repeats dropped; empty where the way isn't visible
unfoldable pub line_of : Objects → WayId → List NodeId
line_of M w = changes (refs_of (way_of M w))

-- the node at a position of a way's line
unfoldable pub node_at : Objects → WayId → ℕ → Option NodeId
node_at M w i = slice_get (line_of M w) i

-- the step names two neighbouring positions of a visible way's line
unfoldable pub names_pair : Objects → Step → Bool
names_pair M s = nat_lt (s.index + 1) (length (line_of M s.way))

abbrev pub tail_position : Dir → ℕ → ℕ
tail_position Forward i = i
tail_position Backward i = i + 1

abbrev pub head_position : Dir → ℕ → ℕ
head_position Forward i = i + 1
head_position Backward i = i

-- the node at a position of the step's way, where the step names a pair
unfoldable pub end_at : Objects → Step → ℕ → Option NodeId
end_at M s i = cond (names_pair M s) (node_at M s.way i) None

-- the node where a step begins; a step that names no pair begins nowhere
abbrev pub tail_of : Objects → Step → Option NodeId
tail_of M s = end_at M s (tail_position s.dir s.index)

-- the node where a step ends; a step that names no pair ends nowhere
abbrev pub head_of : Objects → Step → Option NodeId
head_of M s = end_at M s (head_position s.dir s.index)

-- n steps along the way from position i, in order of travel
abbrev pub forward_steps : WayId → ℕ → ℕ → List Step
forward_steps w i zero = []
forward_steps w i (suc n) = record { way = w; index = i; dir = Forward } ∷ forward_steps w (i + 1) n

-- n steps against the way down to position i, in order of travel
abbrev pub backward_steps : WayId → ℕ → ℕ → List Step
backward_steps w i zero = []
backward_steps w i (suc n) = record { way = w; index = i + n; dir = Backward } ∷ backward_steps w i n

-- the n steps between the positions i and i + n, in order of travel
abbrev pub steps_from : WayId → ℕ → ℕ → Dir → List Step
steps_from w i n Forward = forward_steps w i n
steps_from w i n Backward = backward_steps w i n
