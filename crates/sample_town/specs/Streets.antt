-- The objects of a town: a grid of 60 rows and 60 columns, with a node at each crossing, a way from each crossing to
-- the next one east of it and to the next one north of it, and restrictions along rows. Rows and columns count from 0.
-- The version of an object is 1 in the base, and 1 + q in change q; the base is change 0 here.
use Rattle.std.specs.Prelude.{◌≡◌, refl, ℕ, ◌+◌, ◌*◌, ◌%◌, ◌==◌, ℤ, pos, List, [], ◌∷◌, codes}
use Rattle.std.specs.Prelude.{Bool, true, false, Option, Some, None, cond, nat_lt}
use Rattle.road_base.specs.Ranges.{is_in_range}
use Rattle.road_base.specs.Tags.{TagList}
use Rattle.road_base.specs.declared.event.Event.{Event}
use Rattle.road_base.specs.declared.ids.NodeId.{NodeId}
use Rattle.road_base.specs.declared.ids.WayId.{WayId}
use Rattle.road_base.specs.declared.ids.Key.{Key}
use Rattle.road_base.specs.declared.ids.Key.TheVariants.{Node as NodeKey, Way as WayKey, Relation as RelationKey}
use Rattle.road_base.specs.declared.location.Location.{Location}
use Rattle.road_base.specs.declared.objects.Member.{Member}
use Rattle.road_base.specs.declared.objects.Body.TheVariants.{Node as NodeBody, Way as WayBody}
use Rattle.road_base.specs.declared.objects.Body.TheVariants.{Relation as RelationBody, Deleted}

-- the node in this row and column
abbrev pub node_at : ℕ → ℕ → NodeId
node_at r c = record { 0 = pos (1 + 60 * r + c) }

-- the way from the crossing in this row and column to the next one east of it
abbrev pub east_of : ℕ → ℕ → WayId
east_of r c = record { 0 = pos (1 + 59 * r + c) }

-- the way from the crossing in this row and column to the next one north of it
abbrev pub north_of : ℕ → ℕ → WayId
north_of r c = record { 0 = pos (100001 + 60 * r + c) }

-- the place, where the numbers are in range
abbrev pub place_if : (lon lat : ℤ) (within : Bool) → is_in_range lon lat ≡ within → Option Location
place_if lon lat true is = Some (record { lon = lon; lat = lat; in_range = is })
place_if lon lat false is = None

unfoldable pub place : ℤ → ℤ → Option Location
place lon lat = place_if lon lat (is_in_range lon lat) refl

-- the node in this row and column, in the version of change q, which moves it by q to the east
unfoldable pub node : ℕ → ℕ → ℕ → Event
node q r c = record {
  key = NodeKey (node_at r c);
  version = 1 + q;
  body = NodeBody (record { tags = []; location = place (pos (10000 * c + q)) (pos (10000 * r)) });
  kind = refl;
}

abbrev pub way_tags : Bool → TagList
way_tags oneway =
    (codes "highway", codes "residential")
    ∷ cond oneway ((codes "oneway", codes "yes") ∷ []) []

-- the way over two nodes, in the version of change q
unfoldable pub way : ℕ → WayId → NodeId → NodeId → Bool → Event
way q id tail head oneway = record {
  key = WayKey id;
  version = 1 + q;
  body = WayBody (record { tags = way_tags oneway; refs = tail ∷ head ∷ [] });
  kind = refl;
}

-- the way east of the crossing in this row and column, and that north of it
abbrev pub east_way : ℕ → ℕ → ℕ → Bool → Event
east_way q r c oneway = way q (east_of r c) (node_at r c) (node_at r (c + 1)) oneway

abbrev pub north_way : ℕ → ℕ → ℕ → Bool → Event
north_way q r c oneway = way q (north_of r c) (node_at r c) (node_at (r + 1) c) oneway

-- no_straight_on where k is even, only_straight_on where it is odd
abbrev pub restriction_tags : ℕ → TagList
restriction_tags k =
    (codes "restriction", cond (k % 2 == 0) (codes "no_straight_on") (codes "only_straight_on"))
    ∷ (codes "type", codes "restriction") ∷ []

abbrev pub member : Key → List ℕ → Member
member item role = record { item = item; role = role }

-- from a way by another member to a way
abbrev pub turn : WayId → Key → WayId → List Member
turn from via to =
    member (WayKey from) (codes "from") ∷ member via (codes "via")
    ∷ member (WayKey to) (codes "to") ∷ []

-- straight on from the crossing in row r and column c: by the node that follows where k is 0 or 1, else by the way that
-- follows
abbrev pub restriction_members : ℕ → ℕ → ℕ → List Member
restriction_members r c k =
    cond (nat_lt k 2) (turn (east_of r c) (NodeKey (node_at r (c + 1))) (east_of r (c + 1)))
    (turn (east_of r c) (WayKey (east_of r (c + 1))) (east_of r (c + 2)))

-- the restriction of the kind k from the crossing in row r and column c
unfoldable pub restriction : ℕ → ℕ → ℕ → ℕ → Event
restriction number r c k = record {
  key = RelationKey (record { 0 = pos number });
  version = 1;
  body = RelationBody (record { tags = restriction_tags k; members = restriction_members r c k });
  kind = refl;
}

-- that relation is deleted by change q
unfoldable pub deletion : ℕ → ℕ → Event
deletion q number = record {
  key = RelationKey (record { 0 = pos number });
  version = 1 + q;
  body = Deleted;
  kind = refl;
}
