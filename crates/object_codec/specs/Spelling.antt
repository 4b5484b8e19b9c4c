-- The bytes that spell a list of events. All numbers are little endian, and a count or a length stands in front of
-- what it counts.
use Rattle.std.specs.Prelude.{ℕ, ◌<◌, ◌≤◌, ◌^◌, List, [], ◌∷◌, ◌++◌, length, Option, Some, None, FitsSigned}
use Rattle.std.specs.Prelude.{IsUtf8, IsTrue}
use Rattle.std.specs.List.{AllByRecursion}
use Rattle.std.specs.Int.{w64}
use Rattle.road_base.specs.Bytes.{u32_bytes, u64_bytes, i64_bytes, joined}
use Rattle.road_base.specs.Kinds.{has_kind}
use Rattle.road_base.specs.Tags.{TagList, IsAscending}
use Rattle.road_base.specs.declared.ids.NodeId.{NodeId}
use Rattle.road_base.specs.declared.ids.Key.{Key}
use Rattle.road_base.specs.declared.ids.Key.TheVariants.{Node as NodeKey, Way as WayKey, Relation as RelationKey}
use Rattle.road_base.specs.declared.location.Location.{Location}
use Rattle.road_base.specs.declared.objects.Node.{Node}
use Rattle.road_base.specs.declared.objects.Way.{Way}
use Rattle.road_base.specs.declared.objects.Member.{Member}
use Rattle.road_base.specs.declared.objects.Relation.{Relation}
use Rattle.road_base.specs.declared.objects.Body.{Body}
use Rattle.road_base.specs.declared.objects.Body.TheVariants.{Node as NodeBody, Way as WayBody}
use Rattle.road_base.specs.declared.objects.Body.TheVariants.{Relation as RelationBody, Deleted}
use Rattle.road_base.specs.declared.event.Event.{Event}
use Rattle.spelled_bytes.specs.Spelling.{pair_bytes, PairFits, location_bytes, LocationFits}

-- ---- spelling

-- how many there are, in four bytes, and the bytes of each
abbrev pub list_bytes : {A : Type 0} → (A → List ℕ) → List A → List ℕ
list_bytes spell xs = u32_bytes (length xs) ++ joined spell xs

-- how many bytes the text has, in eight bytes, and the text
unfoldable pub text_bytes : List ℕ → List ℕ
text_bytes text = u64_bytes (length text) ++ text

-- each key before its value
unfoldable pub tags_bytes : TagList → List ℕ
tags_bytes tags = list_bytes (pair_bytes text_bytes text_bytes) tags

unfoldable pub node_id_bytes : NodeId → List ℕ
node_id_bytes n = i64_bytes n.0

-- the kind, 0 for a node, 1 for a way and 2 for a relation, and the number
unfoldable pub key_bytes : Key → List ℕ
key_bytes (NodeKey n) = 0 ∷ i64_bytes n.0
key_bytes (WayKey w) = 1 ∷ i64_bytes w.0
key_bytes (RelationKey r) = 2 ∷ i64_bytes r.0

-- 0, or 1 and the location
unfoldable pub place_bytes : Option Location → List ℕ
place_bytes None = 0 ∷ []
place_bytes (Some l) = 1 ∷ location_bytes l

unfoldable pub node_bytes : Node → List ℕ
node_bytes n = tags_bytes n.tags ++ place_bytes n.location

unfoldable pub refs_bytes : List NodeId → List ℕ
refs_bytes refs = list_bytes node_id_bytes refs

unfoldable pub way_bytes : Way → List ℕ
way_bytes w = tags_bytes w.tags ++ refs_bytes w.refs

-- the object that is named, and its role
unfoldable pub member_bytes : Member → List ℕ
member_bytes m = key_bytes m.item ++ text_bytes m.role

unfoldable pub members_bytes : List Member → List ℕ
members_bytes members = list_bytes member_bytes members

unfoldable pub relation_bytes : Relation → List ℕ
relation_bytes r = tags_bytes r.tags ++ members_bytes r.members

-- 0 for a deletion, or 1 and the object
unfoldable pub body_bytes : Body → List ℕ
body_bytes Deleted = 0 ∷ []
body_bytes (NodeBody n) = 1 ∷ node_bytes n
body_bytes (WayBody w) = 1 ∷ way_bytes w
body_bytes (RelationBody r) = 1 ∷ relation_bytes r

unfoldable pub event_bytes : Event → List ℕ
event_bytes e = key_bytes e.key ++ u32_bytes e.version ++ body_bytes e.body

-- how many events there are, in eight bytes, and each event
unfoldable pub events_bytes : List Event → List ℕ
events_bytes events = u64_bytes (length events) ++ joined event_bytes events

-- ---- values that the program's types can hold. That a body has its key's kind and a location is in range, the types
-- of a specification say too.

-- at most 65,535 of them
abbrev pub ListFits : {A : Type 0} → (A → Type 0) → List A → Type 0
ListFits Fits xs = (length xs ≤ 65535) × AllByRecursion Fits xs

-- UTF-8 whose length fits eight bytes
unfoldable pub TextFits : List ℕ → Type 0
TextFits text = IsUtf8 text × (length text < 2 ^ 64)

-- keys strictly ascending by bytes
unfoldable pub TagsFit : TagList → Type 0
TagsFit tags = IsAscending tags × ListFits (PairFits TextFits TextFits) tags

unfoldable pub NodeIdFits : NodeId → Type 0
NodeIdFits n = FitsSigned w64 n.0

unfoldable pub KeyFits : Key → Type 0
KeyFits (NodeKey n) = FitsSigned w64 n.0
KeyFits (WayKey w) = FitsSigned w64 w.0
KeyFits (RelationKey r) = FitsSigned w64 r.0

unfoldable pub PlaceFits : Option Location → Type 0
PlaceFits None = Unit {0}
PlaceFits (Some l) = LocationFits l

unfoldable pub NodeFits : Node → Type 0
NodeFits n = TagsFit n.tags × PlaceFits n.location

unfoldable pub RefsFit : List NodeId → Type 0
RefsFit refs = ListFits NodeIdFits refs

unfoldable pub WayFits : Way → Type 0
WayFits w = TagsFit w.tags × RefsFit w.refs

unfoldable pub MemberFits : Member → Type 0
MemberFits m = KeyFits m.item × TextFits m.role

unfoldable pub MembersFit : List Member → Type 0
MembersFit members = ListFits MemberFits members

unfoldable pub RelationFits : Relation → Type 0
RelationFits r = TagsFit r.tags × MembersFit r.members

unfoldable pub BodyFits : Body → Type 0
BodyFits Deleted = Unit {0}
BodyFits (NodeBody n) = NodeFits n
BodyFits (WayBody w) = WayFits w
BodyFits (RelationBody r) = RelationFits r

-- a body that an object of this key may have
unfoldable pub IsBodyOf : Key → Body → Type 0
IsBodyOf k b = IsTrue (has_kind k b) × BodyFits b

unfoldable pub EventFits : Event → Type 0
EventFits e = (KeyFits e.key × (e.version < 2 ^ 32)) × BodyFits e.body

-- what a list of events of the program can be
unfoldable pub AreEvents : List Event → Type 0
AreEvents events = (length events < 2 ^ 64) × AllByRecursion EventFits events
