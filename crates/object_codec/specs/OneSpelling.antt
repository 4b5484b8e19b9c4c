-- No spelling begins another one, and each is that of one value. What has a spelling gives this as its law, so the
-- proofs stand here.
use mathlib.Core.HLevel.{is_prop→PathP}
use mathlib.Core.Bool.{Bool-set}
use Rattle.std.proofs.Common.{◌≡◌, ℕ, ℤ, ◌<◌, ◌^◌, true, IsTrue, List, [], ◌∷◌, ◌++◌, length, drop, Some, None}
use Rattle.std.proofs.Common.{FitsSigned, refl, sym, ap, subst, ◌∙◌, arith, append_assoc, append-nil}
use Rattle.std.specs.Int.{w64}
use Rattle.road_base.specs.Bytes.{u32_bytes, u64_bytes, i64_bytes, joined}
use Rattle.road_base.specs.Kinds.{has_kind}
use Rattle.road_base.specs.declared.ids.NodeId.{NodeId}
use Rattle.road_base.specs.declared.ids.Key.{Key}
use Rattle.road_base.specs.declared.ids.Key.TheVariants.{Node as NodeKey, Way as WayKey, Relation as RelationKey}
use Rattle.road_base.specs.declared.objects.Node.{Node}
use Rattle.road_base.specs.declared.objects.Way.{Way}
use Rattle.road_base.specs.declared.objects.Member.{Member}
use Rattle.road_base.specs.declared.objects.Relation.{Relation}
use Rattle.road_base.specs.declared.objects.Body.{Body}
use Rattle.road_base.specs.declared.objects.Body.TheVariants.{Node as NodeBody, Way as WayBody}
use Rattle.road_base.specs.declared.objects.Body.TheVariants.{Relation as RelationBody, Deleted}
use Rattle.road_base.specs.declared.event.Event.{Event}
use Rattle.spelled_bytes.specs.Spelling.{pair_bytes, PairFits}
use Rattle.spelled_bytes.specs.Reading.{Begins, IsOneSpelling}
use Rattle.spelled_bytes.specs.OneSpelling.{same_front, differ, u32_one, u64_one, i64_one, pair_one, by_one}
use Rattle.spelled_bytes.specs.OneSpelling.{joined_one, location_one}
use Rattle.object_codec.specs.Spelling.{list_bytes, text_bytes, tags_bytes, node_id_bytes, key_bytes, place_bytes}
use Rattle.object_codec.specs.Spelling.{node_bytes, refs_bytes, way_bytes, member_bytes, members_bytes, relation_bytes}
use Rattle.object_codec.specs.Spelling.{body_bytes, event_bytes, events_bytes, ListFits, TextFits, TagsFit, NodeIdFits}
use Rattle.object_codec.specs.Spelling.{KeyFits, PlaceFits, NodeFits, RefsFit, WayFits, MemberFits, MembersFit}
use Rattle.object_codec.specs.Spelling.{RelationFits, BodyFits, IsBodyOf, EventFits, AreEvents}

-- ---- lists

pub list_one : {A : Type 0} (f : A → List ℕ) (F : A → Type 0) → IsOneSpelling f F
    → IsOneSpelling (list_bytes f) (ListFits F)
list_one {A} f F one xs ys bytes r s first second =
    let a = u32_one (length xs) (length ys) bytes (joined f xs ++ r) (joined f ys ++ s)
    (record {
      fits = omega (arith, first.fits.0);
      parts = first.parts
          ∙ append_assoc (u32_bytes (length xs)) (joined f xs) r;
    })
    (record {
      fits = omega (arith, second.fits.0);
      parts = second.parts
          ∙ append_assoc (u32_bytes (length ys)) (joined f ys) s;
    }) in
    joined_one f F one xs ys r s a.0 first.fits.1 second.fits.1 a.1

-- ---- texts, and what is made of them

pub text_one : IsOneSpelling text_bytes TextFits
unfolding text_bytes TextFits
text_one x y bytes r s first second =
    let a = u64_one (length x) (length y) bytes (x ++ r) (y ++ s)
    (record { fits = first.fits.1; parts = first.parts ∙ append_assoc (u64_bytes (length x)) x r })
    (record { fits = second.fits.1; parts = second.parts ∙ append_assoc (u64_bytes (length y)) y s }) in
    same_front x y r s a.0 a.1

pub tags_one : IsOneSpelling tags_bytes TagsFit
unfolding tags_bytes TagsFit
tags_one x y bytes r s first second =
    list_one (pair_bytes text_bytes text_bytes) (PairFits TextFits TextFits)
    (pair_one text_bytes TextFits text_bytes TextFits text_one text_one) x y bytes r s
    (record { fits = first.fits.1; parts = first.parts }) (record { fits = second.fits.1; parts = second.parts })

pub node_id_one : IsOneSpelling node_id_bytes NodeIdFits
unfolding node_id_bytes NodeIdFits
node_id_one = by_one (λ (n : NodeId). n.0) i64_bytes (FitsSigned w64) (λ x y e i. record { 0 = e i }) i64_one

-- ---- keys

-- behind a kind of its own
numbers_one : (kind : ℕ) (x y : ℤ) (bytes r s : List ℕ) → FitsSigned w64 x → FitsSigned w64 y
    → bytes ≡ (kind ∷ i64_bytes x) ++ r → bytes ≡ (kind ∷ i64_bytes y) ++ s → (x ≡ y) × (r ≡ s)
numbers_one kind x y bytes r s x_fits y_fits first second =
    i64_one x y (drop 1 bytes) r s (record { fits = x_fits; parts = ap (drop 1) first })
    (record { fits = y_fits; parts = ap (drop 1) second })

pub key_one : IsOneSpelling key_bytes KeyFits
unfolding key_bytes KeyFits
key_one (NodeKey x) (NodeKey y) bytes r s first second =
    let a = numbers_one 0 x.0 y.0 bytes r s first.fits second.fits first.parts second.parts
    in (λ i. NodeKey (record { 0 = a.0 i }), a.1)
key_one (WayKey x) (WayKey y) bytes r s first second =
    let a = numbers_one 1 x.0 y.0 bytes r s first.fits second.fits first.parts second.parts
    in (λ i. WayKey (record { 0 = a.0 i }), a.1)
key_one (RelationKey x) (RelationKey y) bytes r s first second =
    let a = numbers_one 2 x.0 y.0 bytes r s first.fits second.fits first.parts second.parts
    in (λ i. RelationKey (record { 0 = a.0 i }), a.1)
key_one (NodeKey x) (WayKey y) bytes r s first second = absurd (differ 0 1 bytes _ _ refl first.parts second.parts)
key_one (NodeKey x) (RelationKey y) bytes r s first second = absurd (differ 0 2 bytes _ _ refl first.parts second.parts)
key_one (WayKey x) (NodeKey y) bytes r s first second = absurd (differ 1 0 bytes _ _ refl first.parts second.parts)
key_one (WayKey x) (RelationKey y) bytes r s first second = absurd (differ 1 2 bytes _ _ refl first.parts second.parts)
key_one (RelationKey x) (NodeKey y) bytes r s first second = absurd (differ 2 0 bytes _ _ refl first.parts second.parts)
key_one (RelationKey x) (WayKey y) bytes r s first second = absurd (differ 2 1 bytes _ _ refl first.parts second.parts)

-- ---- places and objects

pub place_one : IsOneSpelling place_bytes PlaceFits
unfolding place_bytes PlaceFits
place_one None None bytes r s first second = (refl, ap (drop 1) (sym first.parts ∙ second.parts))
place_one None (Some y) bytes r s first second = absurd (differ 0 1 bytes _ _ refl first.parts second.parts)
place_one (Some x) None bytes r s first second = absurd (differ 1 0 bytes _ _ refl first.parts second.parts)
place_one (Some x) (Some y) bytes r s first second =
    let a = location_one x y (drop 1 bytes) r s (record { fits = first.fits; parts = ap (drop 1) first.parts })
    (record { fits = second.fits; parts = ap (drop 1) second.parts }) in
    (λ i. Some (a.0 i), a.1)

pub node_one : IsOneSpelling node_bytes NodeFits
unfolding node_bytes NodeFits
node_one =
    by_one (λ (n : Node). (n.tags, n.location)) (pair_bytes tags_bytes place_bytes) (PairFits TagsFit PlaceFits)
    (λ x y e i. record { tags = (e i).0; location = (e i).1 })
    (pair_one tags_bytes TagsFit place_bytes PlaceFits tags_one place_one)

pub refs_one : IsOneSpelling refs_bytes RefsFit
unfolding refs_bytes RefsFit
refs_one = list_one node_id_bytes NodeIdFits node_id_one

pub way_one : IsOneSpelling way_bytes WayFits
unfolding way_bytes WayFits
way_one =
    by_one (λ (w : Way). (w.tags, w.refs)) (pair_bytes tags_bytes refs_bytes) (PairFits TagsFit RefsFit)
    (λ x y e i. record { tags = (e i).0; refs = (e i).1 })
    (pair_one tags_bytes TagsFit refs_bytes RefsFit tags_one refs_one)

pub member_one : IsOneSpelling member_bytes MemberFits
unfolding member_bytes MemberFits
member_one =
    by_one (λ (m : Member). (m.item, m.role)) (pair_bytes key_bytes text_bytes) (PairFits KeyFits TextFits)
    (λ x y e i. record { item = (e i).0; role = (e i).1 })
    (pair_one key_bytes KeyFits text_bytes TextFits key_one text_one)

pub members_one : IsOneSpelling members_bytes MembersFit
unfolding members_bytes MembersFit
members_one = list_one member_bytes MemberFits member_one

pub relation_one : IsOneSpelling relation_bytes RelationFits
unfolding relation_bytes RelationFits
relation_one =
    by_one (λ (r : Relation). (r.tags, r.members)) (pair_bytes tags_bytes members_bytes) (PairFits TagsFit MembersFit)
    (λ x y e i. record { tags = (e i).0; members = (e i).1 })
    (pair_one tags_bytes TagsFit members_bytes MembersFit tags_one members_one)

-- ---- events

visible_parts : (x : List ℕ) (bytes r : List ℕ) → bytes ≡ (1 ∷ x) ++ r → drop 1 bytes ≡ x ++ r
visible_parts x bytes r e = ap (drop 1) e

-- at one key, whose kind says what object a visible body is
pub body_one : (k : Key) (x y : Body) (bytes r s : List ℕ) → Begins body_bytes (IsBodyOf k) bytes x r
    → Begins body_bytes (IsBodyOf k) bytes y s → (x ≡ y) × (r ≡ s)
unfolding body_bytes IsBodyOf BodyFits
body_one k Deleted Deleted bytes r s first second = (refl, ap (drop 1) (sym first.parts ∙ second.parts))
body_one k Deleted (NodeBody y) bytes r s first second = absurd (differ 0 1 bytes _ _ refl first.parts second.parts)
body_one k Deleted (WayBody y) bytes r s first second = absurd (differ 0 1 bytes _ _ refl first.parts second.parts)
body_one k Deleted (RelationBody y) bytes r s first second = absurd (differ 0 1 bytes _ _ refl first.parts second.parts)
body_one k (NodeBody x) Deleted bytes r s first second = absurd (differ 1 0 bytes _ _ refl first.parts second.parts)
body_one k (WayBody x) Deleted bytes r s first second = absurd (differ 1 0 bytes _ _ refl first.parts second.parts)
body_one k (RelationBody x) Deleted bytes r s first second = absurd (differ 1 0 bytes _ _ refl first.parts second.parts)
body_one k (NodeBody x) (NodeBody y) bytes r s first second =
    let a = node_one x y (drop 1 bytes) r s (record
    { fits = first.fits.1; parts = visible_parts (node_bytes x) bytes r first.parts })
    (record { fits = second.fits.1; parts = visible_parts (node_bytes y) bytes s second.parts }) in
    (ap NodeBody a.0, a.1)
body_one k (WayBody x) (WayBody y) bytes r s first second =
    let a = way_one x y (drop 1 bytes) r s (record
    { fits = first.fits.1; parts = visible_parts (way_bytes x) bytes r first.parts })
    (record { fits = second.fits.1; parts = visible_parts (way_bytes y) bytes s second.parts }) in
    (ap WayBody a.0, a.1)
body_one k (RelationBody x) (RelationBody y) bytes r s first second =
    let a = relation_one x y (drop 1 bytes) r s
    (record { fits = first.fits.1; parts = visible_parts (relation_bytes x) bytes r first.parts })
    (record { fits = second.fits.1; parts = visible_parts (relation_bytes y) bytes s second.parts }) in
    (ap RelationBody a.0, a.1)
body_one (NodeKey k) (NodeBody x) (WayBody y) bytes r s first second = cc second.fits.0
body_one (NodeKey k) (NodeBody x) (RelationBody y) bytes r s first second = cc second.fits.0
body_one (NodeKey k) (WayBody x) (NodeBody y) bytes r s first second = cc first.fits.0
body_one (NodeKey k) (WayBody x) (RelationBody y) bytes r s first second = cc first.fits.0
body_one (NodeKey k) (RelationBody x) (NodeBody y) bytes r s first second = cc first.fits.0
body_one (NodeKey k) (RelationBody x) (WayBody y) bytes r s first second = cc first.fits.0
body_one (WayKey k) (NodeBody x) (WayBody y) bytes r s first second = cc first.fits.0
body_one (WayKey k) (NodeBody x) (RelationBody y) bytes r s first second = cc first.fits.0
body_one (WayKey k) (WayBody x) (NodeBody y) bytes r s first second = cc second.fits.0
body_one (WayKey k) (WayBody x) (RelationBody y) bytes r s first second = cc second.fits.0
body_one (WayKey k) (RelationBody x) (NodeBody y) bytes r s first second = cc first.fits.0
body_one (WayKey k) (RelationBody x) (WayBody y) bytes r s first second = cc first.fits.0
body_one (RelationKey k) (NodeBody x) (WayBody y) bytes r s first second = cc first.fits.0
body_one (RelationKey k) (NodeBody x) (RelationBody y) bytes r s first second = cc first.fits.0
body_one (RelationKey k) (WayBody x) (NodeBody y) bytes r s first second = cc first.fits.0
body_one (RelationKey k) (WayBody x) (RelationBody y) bytes r s first second = cc first.fits.0
body_one (RelationKey k) (RelationBody x) (NodeBody y) bytes r s first second = cc second.fits.0
body_one (RelationKey k) (RelationBody x) (WayBody y) bytes r s first second = cc second.fits.0

same_event : (x y : Event) → x.key ≡ y.key → x.version ≡ y.version → x.body ≡ y.body → x ≡ y
same_event x y key version body = λ i. record {
  key = key i;
  version = version i;
  body = body i;
  kind = is_prop→PathP (λ j. IsTrue (has_kind (key j) (body j))) (λ j. Bool-set (has_kind (key j) (body j)) true) x.kind
      y.kind i;
}

pub event_one : IsOneSpelling event_bytes EventFits
unfolding event_bytes EventFits IsBodyOf
event_one x y bytes r s first second =
    let head : Event → Key × ℕ = λ e. (e.key, e.version) in
    let a = pair_one key_bytes KeyFits u32_bytes (λ n. n < 2 ^ 32) key_one u32_one (head x) (head y) bytes
    (body_bytes x.body ++ r) (body_bytes y.body ++ s)
    (record {
      fits = first.fits.0;
      parts = first.parts
          ∙ append_assoc (key_bytes x.key ++ u32_bytes x.version) (body_bytes x.body) r;
    })
    (record {
      fits = second.fits.0;
      parts = second.parts
          ∙ append_assoc (key_bytes y.key ++ u32_bytes y.version) (body_bytes y.body) s;
    }) in
    let key : x.key ≡ y.key = ap (λ (p : Key × ℕ). p.0) a.0 in
    let version : x.version ≡ y.version = ap (λ (p : Key × ℕ). p.1) a.0 in
    let b = body_one x.key x.body y.body (body_bytes x.body ++ r) r s
    (record { fits = (x.kind, first.fits.1); parts = refl })
    (record { fits = (subst (λ k. IsTrue (has_kind k y.body)) (sym key) y.kind, second.fits.1); parts = a.1 }) in
    (same_event x y key version b.0, b.1)

pub events_one : IsOneSpelling events_bytes AreEvents
unfolding events_bytes AreEvents
events_one x y bytes r s first second =
    let a = u64_one (length x) (length y) bytes (joined event_bytes x ++ r) (joined event_bytes y ++ s)
    (record {
      fits = first.fits.0;
      parts = first.parts
          ∙ append_assoc (u64_bytes (length x)) (joined event_bytes x) r;
    })
    (record {
      fits = second.fits.0;
      parts = second.parts
          ∙ append_assoc (u64_bytes (length y)) (joined event_bytes y) s;
    }) in
    joined_one event_bytes EventFits event_one x y r s a.0 first.fits.1 second.fits.1 a.1

-- the bytes are the spelling of the events, and nothing stands behind it
pub whole_begins : (events : List Event) (bytes : List ℕ) → AreEvents events → events_bytes events ≡ bytes
    → Begins events_bytes AreEvents bytes events []
whole_begins events bytes fits e = record { fits = fits; parts = sym e ∙ sym (append-nil (events_bytes events)) }

pub one_list : (a b : List Event) → AreEvents a → AreEvents b → events_bytes a ≡ events_bytes b → a ≡ b
one_list a b a_fits b_fits e =
    (events_one a b (events_bytes b) [] [] (whole_begins a (events_bytes b) a_fits e)
    (whole_begins b (events_bytes b) b_fits refl)).0
