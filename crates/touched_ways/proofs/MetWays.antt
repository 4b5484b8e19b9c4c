-- Ways that share a node with one of some ways, and ways that a restriction names beside one of some ways.
use Rattle.std.proofs.Common.{◌↔◌, ◌⊎◌, inl, inr, IsTrue, List, sym, subst, Contains}
use Rattle.road_base.specs.declared.ids.WayId.{WayId}
use Rattle.road_base.specs.declared.ids.RelationId.{RelationId}
use Rattle.road_base.specs.declared.ids.Key.{Key}
use Rattle.road_base.specs.declared.ids.Key.TheVariants.{Node as NodeKey, Way as WayKey, Relation as RelationKey}
use Rattle.road_base.specs.Objects.{Objects}
use Rattle.road_model.specs.Links.{IsLink}
use Rattle.ordered_lists.specs.Orders.{Lists, rises}
use Rattle.road_model.specs.Orders.{way_cmp}
use Rattle.ordered_lists.proofs.JoinedLists.{lists_same}
use Rattle.touched_ways.specs.declared.found.Reached.{Reached}
use Rattle.touched_ways.specs.Altering.{AreNamedTogether, HereOrBeside, MeetsOne}
use Rattle.touched_ways.specs.Searches.{Finds, GivenBy, IsFound, IsWayLink}
use Rattle.touched_ways.proofs.WayLists.{same}

-- ---- an ascending list of the ways that were found

module _ (ways found : List WayId) (up : IsTrue (rises way_cmp ways))
    (kept : (w : WayId) → Contains ways w ↔ Contains found w) (Is : WayId → Type 0)
    (exactly : (w : WayId) → Contains found w ↔ Is w) where
  pub lists_found : Lists (λ w. w) way_cmp Is ways
  lists_found = record {
    ascending = subst (λ l. IsTrue (rises way_cmp l)) (sym (same ways)) up;
    sound = λ w has. (exactly w).0 ((kept w).0 has);
    complete = λ w is. (kept w).1 ((exactly w).1 is);
  }

-- ---- two links, by a node, lead from a way to one that it meets

module _ (M : Objects) (ways : List WayId) (none nodes start end : Reached)
    (no_keys : (k : Key) → IsFound none k → ⊥) (no_ways : (k : Key) → IsFound start k → ⊥)
    (first : Finds none nodes (GivenBy (λ w. IsLink M (WayKey w)) ways))
    (second : Finds start end (GivenBy (λ n. IsWayLink M (NodeKey n)) nodes.nodes.items)) where
  met_sound : (w : WayId) → Contains end.ways.list.items w → MeetsOne M ways w
  met_sound w has = elim (second.sound (WayKey w) has) [
    | inl was ↦ absurd (no_ways (WayKey w) was)
    | inr (n, at, link) ↦ elim (first.sound (NodeKey n) at) [
      | inl was ↦ absurd (no_keys (NodeKey n) was)
      | inr (v, own, refers) ↦ (v, n, own, link.0, refers)
    ]
  ]

  met_complete : (w : WayId) → MeetsOne M ways w → Contains end.ways.list.items w
  met_complete w (v, n, own, here, there) =
      second.complete (WayKey w) (n, first.complete (NodeKey n) (v, own, there), (here, tt))

  pub met_exactly : (w : WayId) → Contains end.ways.list.items w ↔ MeetsOne M ways w
  met_exactly w = (met_sound w, met_complete w)

-- ---- and two by a restriction to one that it names beside it

module _ (M : Objects) (ways : List WayId) (none linked start end : Reached) (rules : List RelationId)
    (no_keys : (k : Key) → IsFound none k → ⊥) (no_ways : (k : Key) → IsFound start k → ⊥)
    (first : Finds none linked (GivenBy (λ w. IsLink M (WayKey w)) ways))
    (once : (r : RelationId) → Contains rules r ↔ Contains linked.rules.items r)
    (second : Finds start end (GivenBy (λ r. IsWayLink M (RelationKey r)) rules)) where
  beside_sound : (w : WayId) → Contains end.ways.list.items w
      → (v : WayId) × AreNamedTogether M w v × Contains ways v
  beside_sound w has = elim (second.sound (WayKey w) has) [
    | inl was ↦ absurd (no_ways (WayKey w) was)
    | inr (r, at, link) ↦ elim (first.sound (RelationKey r) ((once r).0 at)) [
      | inl was ↦ absurd (no_keys (RelationKey r) was)
      | inr (v, own, names) ↦ (v, (r, link.0, names), own)
    ]
  ]

  beside_complete : (w : WayId) → (v : WayId) × AreNamedTogether M w v × Contains ways v
      → Contains end.ways.list.items w
  beside_complete w (v, (r, here, there), own) =
      second.complete (WayKey w) (r, (once r).1 (first.complete (RelationKey r) (v, own, there)), (here, tt))

  pub beside_exactly : (w : WayId) → Contains end.ways.list.items w
      ↔ ((v : WayId) × AreNamedTogether M w v × Contains ways v)
  beside_exactly w = (beside_sound w, beside_complete w)

-- the ways, and those beside them
pub with_those_beside : (M : Objects) (ways beside all : List WayId)
    → Lists (λ w. w) way_cmp (λ w. (v : WayId) × AreNamedTogether M w v × Contains ways v) beside
    → Lists (λ w. w) way_cmp (λ w. Contains ways w ⊎ Contains beside w) all
    → Lists (λ w. w) way_cmp (HereOrBeside M (Contains ways)) all
with_those_beside M ways beside all are both = lists_same _ _ _ _ all both
    (λ w h. elim h [ inl own ↦ inl own | inr other ↦ inr (are.sound w other) ])
    (λ w h. elim h [ inl own ↦ inl own | inr other ↦ inr (are.complete w other) ])

-- the ways that meet one of some, and those beside these
pub those_meeting : (M : Objects) (ways met found : List WayId) → Lists (λ w. w) way_cmp (MeetsOne M ways) met
    → Lists (λ w. w) way_cmp (HereOrBeside M (Contains met)) found
    → Lists (λ w. w) way_cmp (HereOrBeside M (MeetsOne M ways)) found
those_meeting M ways met found first second = lists_same _ _ _ _ found second
    (λ w h. elim h [
      | inl here ↦ inl (first.sound w here)
      | inr other ↦ inr (other.0, other.1, first.sound other.0 other.2)
    ])
    (λ w h. elim h [
      | inl here ↦ inl (first.complete w here)
      | inr other ↦ inr (other.0, other.1, first.complete other.0 other.2)
    ])
