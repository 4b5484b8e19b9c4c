-- The members of a restriction, and the causes for which it may be of no use (OSM wiki, Relation:restriction).
use Rattle.std.specs.Prelude.{◌≡◌, ℕ, ◌-◌, nat_le, nat_lt, cond, ◌&&◌, ◌||◌, not, is_some, sum_by, List, [], ◌∷◌}
use Rattle.std.specs.Prelude.{◌++◌, length, Option, Some, None, Bool, true, false, IsTrue, IsFalse, map, filter}
use Rattle.std.specs.Prelude.{codes, reverse}
use Rattle.std.specs.Str.{bytes_eq}
use Rattle.std.specs.List.{list_all, list_any, flat_map}
use Rattle.road_base.specs.declared.ids.NodeId.{NodeId}
use Rattle.road_base.specs.declared.ids.WayId.{WayId}
use Rattle.road_base.specs.declared.ids.Key.{Key}
use Rattle.road_base.specs.declared.ids.Key.TheVariants.{Node as NodeKey, Way as WayKey, Relation as RelationKey}
use Rattle.road_base.specs.declared.ids.Step.{Step}
use Rattle.road_base.specs.declared.ids.Dir.{Dir}
use Rattle.road_base.specs.declared.ids.Dir.TheVariants.{Forward, Backward}
use Rattle.road_base.specs.declared.objects.Member.{Member}
use Rattle.road_base.specs.declared.objects.Relation.{Relation}
use Rattle.road_base.specs.declared.objects.Way.{Way}
use Rattle.road_base.specs.Objects.{Objects, node_of, way_of, relation_of}
use Rattle.road_model.specs.declared.answers.RuleKind.TheVariants.{Freed, Absent}
use Rattle.road_model.specs.declared.answers.Unusable.{Unusable}
use Rattle.road_model.specs.declared.answers.Unusable.TheVariants.{NotThisVehicle, NoValue, Members, Missing, NotAnEnd}
use Rattle.road_model.specs.declared.answers.Unusable.TheVariants.{NotConnected, ClosedVia, TooLong}
use Rattle.road_model.specs.Rules.{Rules, has_highway, is_only}
use Rattle.road_model.specs.Lines.{same_node, line_of, node_at, steps_from}
use Rattle.road_model.specs.Driving.{is_open}

-- ---- members

-- the members of a role, in order; members of other roles are passed over
abbrev pub in_role : List ℕ → List Member → List Key
in_role role ms = map (λ m. m.item) (filter (λ m. bytes_eq m.role role) ms)

abbrev pub froms : Relation → List Key
froms r = in_role (codes "from") r.members

abbrev pub vias : Relation → List Key
vias r = in_role (codes "via") r.members

abbrev pub tos : Relation → List Key
tos r = in_role (codes "to") r.members

abbrev pub is_way_key : Key → Bool
is_way_key (NodeKey n) = false
is_way_key (WayKey w) = true
is_way_key (RelationKey r) = false

abbrev pub is_one_node : List Key → Bool
is_one_node [] = false
is_one_node (NodeKey n ∷ []) = true
is_one_node (NodeKey n ∷ k ∷ ks) = false
is_one_node (WayKey w ∷ ks) = false
is_one_node (RelationKey r ∷ ks) = false

abbrev pub is_empty : List Key → Bool
is_empty [] = true
is_empty (k ∷ ks) = false

-- one way or more, and nothing else
abbrev pub are_ways : List Key → Bool
are_ways ks = not (is_empty ks) && list_all is_way_key ks

-- ---- ends of lines

abbrev pub listed : Option NodeId → List NodeId
listed None = []
listed (Some n) = n ∷ []

-- the first and the last node of a way's line
abbrev pub line_ends : Objects → WayId → List NodeId
line_ends M w = listed (node_at M w 0) ++ listed (node_at M w (length (line_of M w) - 1))

abbrev pub way_ends : Objects → Key → List NodeId
way_ends M (NodeKey n) = []
way_ends M (WayKey w) = line_ends M w
way_ends M (RelationKey r) = []

-- where one may come to a via member, or leave it: the node itself, or the ends of the way's line
abbrev pub via_ends : Objects → Option Key → List NodeId
via_ends M None = []
via_ends M (Some (NodeKey n)) = n ∷ []
via_ends M (Some (WayKey w)) = line_ends M w
via_ends M (Some (RelationKey r)) = []

abbrev pub first_of : List Key → Option Key
first_of [] = None
first_of (k ∷ ks) = Some k

abbrev pub last_of : List Key → Option Key
last_of [] = None
last_of (k ∷ []) = Some k
last_of (k ∷ l ∷ ks) = last_of (l ∷ ks)

abbrev pub same_end : Option NodeId → Option NodeId → Bool
same_end None b = false
same_end (Some a) None = false
same_end (Some a) (Some b) = same_node a b

abbrev pub meet : List NodeId → List NodeId → Bool
meet xs ys = list_any (λ x. list_any (same_node x) ys) xs

-- some of the ways has an end at one of the nodes
abbrev pub some_ends_at : Objects → List Key → List NodeId → Bool
some_ends_at M ks ns = list_any (λ k. meet (way_ends M k) ns) ks

-- ---- the via ways

-- the steps of the whole way, in order of travel
abbrev pub whole_way : Objects → WayId → Dir → List Step
whole_way M w d = steps_from w 0 (length (line_of M w) - 1) d

-- where one begins and ends who drives a line of n nodes in a direction
abbrev pub begin_position : ℕ → Dir → ℕ
begin_position n Forward = 0
begin_position n Backward = n - 1

abbrev pub end_position : ℕ → Dir → ℕ
end_position n Forward = n - 1
end_position n Backward = 0

-- a direction for each of these ways that `allowed` grants, each begun at the node where the one before ended, the
-- first at v: their steps, and the node where the last one ends
abbrev pub IsRun : Objects → (WayId → Dir → Bool) → List Key → NodeId → List Step → NodeId → Type 0
IsRun M allowed [] v steps out = (steps ≡ []) × (v ≡ out)
IsRun M allowed (NodeKey n ∷ ks) v steps out = ⊥
IsRun M allowed (WayKey w ∷ ks) v steps out =
    (d : Dir) × (next : NodeId) × (rest : List Step)
    × IsTrue (allowed w d)
    × (node_at M w (begin_position (length (line_of M w)) d) ≡ Some v)
    × (node_at M w (end_position (length (line_of M w)) d) ≡ Some next)
    × (steps ≡ whole_way M w d ++ rest)
    × IsRun M allowed ks next rest out
IsRun M allowed (RelationKey r ∷ ks) v steps out = ⊥

-- where one comes out who drives the whole way in the direction from v, if it begins there
abbrev pub crossed_in : Objects → WayId → Dir → NodeId → List NodeId
crossed_in M w d v = cond (same_end (node_at M w (begin_position (length (line_of M w)) d)) (Some v))
    (listed (node_at M w (end_position (length (line_of M w)) d))) []

-- where one may come out who drives the whole way from v in a direction that `allowed` grants
abbrev pub crossed : Objects → (WayId → Dir → Bool) → Key → NodeId → List NodeId
crossed M allowed (NodeKey n) v = []
crossed M allowed (WayKey w) v = cond (allowed w Forward) (crossed_in M w Forward v) []
    ++ cond (allowed w Backward) (crossed_in M w Backward v) []
crossed M allowed (RelationKey r) v = []

-- where one may come out who drives these ways so, each from where the one before ended and the first from v
abbrev pub exits : Objects → (WayId → Dir → Bool) → List Key → NodeId → List NodeId
exits M allowed [] v = v ∷ []
exits M allowed (k ∷ ks) v = flat_map (exits M allowed ks) (crossed M allowed k v)

-- such directions lead over these ways from an end of a from way to an end of a to way
abbrev pub connects : Objects → (WayId → Dir → Bool) → Relation → List Key → Bool
connects M allowed r vs = list_any
    (λ v. some_ends_at M (froms r) (v ∷ []) && some_ends_at M (tos r) (exits M allowed vs v))
    (via_ends M (first_of vs))

abbrev pub any_way : WayId → Dir → Bool
any_way w d = true

-- ---- causes

-- no from, no to or no via member
abbrev pub lacks_role : Relation → Bool
lacks_role r = (is_empty (froms r) || is_empty (tos r)) || is_empty (vias r)

-- a from or to that isn't a way
abbrev pub has_wrong_kind : Relation → Bool
has_wrong_kind r = not (list_all is_way_key (froms r)) || not (list_all is_way_key (tos r))

-- via members that are neither one node alone nor all ways
abbrev pub has_wrong_via : Relation → Bool
has_wrong_via r = not (is_one_node (vias r) || are_ways (vias r))

-- an Only rule with several from or to members
abbrev pub has_several : Bool → Relation → Bool
has_several only r = only && (nat_lt 1 (length (froms r)) || nat_lt 1 (length (tos r)))

abbrev pub wrong_members : Bool → Relation → Bool
wrong_members only r = lacks_role r || (has_wrong_kind r || (has_wrong_via r || has_several only r))

abbrev pub is_tagged_highway : Option Way → Bool
is_tagged_highway None = false
is_tagged_highway (Some w) = has_highway w.tags

-- visible; a way with the key `highway` and a line of two nodes or more
abbrev pub is_present : Objects → Key → Bool
is_present M (NodeKey n) = is_some (node_of M n)
is_present M (WayKey w) = is_tagged_highway (way_of M w) && nat_le 2 (length (line_of M w))
is_present M (RelationKey r) = is_some (relation_of M r)

-- some from, via or to member isn't there
abbrev pub lacks_member : Objects → Relation → Bool
lacks_member M r = not (list_all (is_present M) (froms r))
    || (not (list_all (is_present M) (vias r)) || not (list_all (is_present M) (tos r)))

-- the way's line begins and ends at one node
abbrev pub is_ring : Objects → Key → Bool
is_ring M (NodeKey n) = false
is_ring M (WayKey w) = same_end (node_at M w 0) (node_at M w (length (line_of M w) - 1))
is_ring M (RelationKey r) = false

-- for the via members in this order: one of them is a way that is a ring; or no from way ends where they begin; or no
-- to way ends where they end
abbrev pub misses_end : Objects → Relation → List Key → Bool
misses_end M r vs =
    list_any (is_ring M) vs
    || (not (some_ends_at M (froms r) (via_ends M (first_of vs)))
    || not (some_ends_at M (tos r) (via_ends M (last_of vs))))

-- in this order the via ways miss an end, or lead from no from way to a to way
abbrev pub misfits : Objects → Relation → List Key → Bool
misfits M r vs = misses_end M r vs || not (connects M any_way r vs)

-- the via ways are two or more, and fit in the reversed order alone
abbrev pub is_backward : Objects → Relation → Bool
is_backward M r = (are_ways (vias r) && nat_lt 1 (length (vias r)))
    && (misfits M r (vias r) && not (misfits M r (reverse (vias r))))

-- The order in which the via members are passed: as they are listed, but reversed where the profile takes via ways that
-- are listed from the to way to the from way, and these are. The wiki asks for the order of travel (OSM wiki,
-- Relation:restriction, on the order of members), and not all restrictions have it.
abbrev pub via_order : Objects → Rules → Relation → List Key
via_order M P r = cond (P.reverses && is_backward M r) (reverse (vias r)) (vias r)

abbrev pub steps_on : Objects → Key → ℕ
steps_on M (NodeKey n) = 0
steps_on M (WayKey w) = length (line_of M w) - 1
steps_on M (RelationKey r) = 0

-- more than 16 members of one role, or more than 1,024 steps on the via ways together
abbrev pub is_too_long : Objects → Relation → Bool
is_too_long M r = (nat_lt 16 (length (froms r)) || nat_lt 16 (length (vias r)))
    || (nat_lt 16 (length (tos r)) || nat_lt 1024 (sum_by (steps_on M) (vias r)))

-- the condition of each cause, by itself
abbrev pub Holds : Objects → Rules → Relation → Unusable → Type 0
Holds M P r NotThisVehicle = P.rule r.tags ≡ Freed
Holds M P r NoValue = P.rule r.tags ≡ Absent
Holds M P r Members = IsTrue (wrong_members (is_only (P.rule r.tags)) r)
Holds M P r Missing = IsTrue (lacks_member M r)
Holds M P r NotAnEnd = IsTrue (misses_end M r (via_order M P r))
Holds M P r NotConnected = IsTrue (are_ways (vias r)) × IsFalse (connects M any_way r (via_order M P r))
Holds M P r ClosedVia = IsTrue (are_ways (vias r)) × IsTrue (connects M any_way r (via_order M P r))
    × IsFalse (connects M (is_open M P) r (via_order M P r))
Holds M P r TooLong = IsTrue (is_too_long M r)

-- no cause holds
abbrev pub IsUsable : Objects → Rules → Relation → Type 0
IsUsable M P r = (cause : Unusable) → Holds M P r cause → ⊥

-- the order in which the causes are looked at
abbrev pub cause_number : Unusable → ℕ
cause_number NotThisVehicle = 1
cause_number NoValue = 2
cause_number Members = 3
cause_number Missing = 4
cause_number NotAnEnd = 5
cause_number NotConnected = 6
cause_number ClosedVia = 7
cause_number TooLong = 8

abbrev pub IsBefore : Unusable → Unusable → Type 0
IsBefore a b = IsTrue (nat_lt (cause_number a) (cause_number b))

-- the cause that is named: it holds, and none before it does
pub record IsFirstCause (M : Objects) (P : Rules) (r : Relation) (cause : Unusable) : Type 0 where
  pub holds : Holds M P r cause
  pub first : (other : Unusable) → IsBefore other cause → Holds M P r other → ⊥
