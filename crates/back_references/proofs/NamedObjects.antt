-- The pairs of a map's entries of one kind name exactly what the map's links name.
use Rattle.std.proofs.Common.{◌≡◌, ◌↔◌, true, false, Bool, cond, IsTrue, List, [], map, Option, Some, None}
use Rattle.std.proofs.Common.{inl, inr, refl, sym, ap, ◌∙◌, subst, Contains}
use Rattle.std.specs.FinMap.{get, empty, get-empty}
use Rattle.std.specs.List.{flat_map}
use Rattle.road_base.specs.declared.ids.NodeId.{NodeId}
use Rattle.road_base.specs.declared.ids.WayId.{WayId}
use Rattle.road_base.specs.declared.ids.RelationId.{RelationId}
use Rattle.road_base.specs.declared.ids.Key.{Key}
use Rattle.road_base.specs.declared.ids.Key.TheVariants.{Node as NodeKey, Way as WayKey, Relation as RelationKey}
use Rattle.road_base.specs.declared.objects.Member.{Member}
use Rattle.road_base.specs.declared.objects.Way.{Way}
use Rattle.road_base.specs.declared.objects.Relation.{Relation}
use Rattle.road_base.specs.declared.objects.Body.{Body}
use Rattle.road_base.specs.declared.objects.Body.TheVariants.{Node as NodeBody, Way as WayBody}
use Rattle.road_base.specs.declared.objects.Body.TheVariants.{Relation as RelationBody, Deleted}
use Rattle.road_base.specs.declared.event.Event.{Event}
use Rattle.road_base.specs.Objects.{Objects, Entry, key_cmp, body_in, way_in, relation_in, visible, way_of, relation_of}
use Rattle.road_base.specs.Applying.{entry_of}
use Rattle.road_model.specs.Rules.{has_highway, is_restriction}
use Rattle.road_model.specs.Links.{RefersTo, HasMember}
use Rattle.object_store.specs.Listed.{is_way, is_relation, AreEntriesOf}
use Rattle.back_references.specs.declared.references.References.{References}
use Rattle.back_references.specs.Indexing.{IsIndexed}
use Rattle.back_references.specs.References.{highway_nodes, rule_members, with_way, way_references, node_pair, way_pair}
use Rattle.back_references.specs.References.{nodes_with_rule, ways_with_rule, node_rules, way_rules, pairs_at}
use Rattle.back_references.specs.References.{way_references_at, node_rules_at, way_rules_at}
use Rattle.layered_maps.specs.Lists.{Held, Has}
use Rattle.road_model.specs.Orders.{node_cmp, way_cmp}
use Rattle.std.proofs.Common.{Ordering}
use Rattle.ordered_lists.proofs.ListMembers.{In, in_from_contains, contains_from_in}
use Rattle.ordered_lists.proofs.ListMembers.{in_flat, from_flat, in_map, from_map}

-- ---- the pairs of one event

in_references : (k : Key) (ns : List NodeId) (n : NodeId) (w : WayId) → k ≡ WayKey w → In n ns
    → In (n, w) (with_way k ns)
in_references k ns n w e i = subst (λ j. In (n, w) (with_way j ns)) (sym e) (in_map (λ (m : NodeId). (m, w)) ns n i)

from_references : (k : Key) (ns : List NodeId) (n : NodeId) (w : WayId) → In (n, w) (with_way k ns)
    → (k ≡ WayKey w) × In n ns
from_references (NodeKey a) ns n w i = absurd i
from_references (WayKey v) ns n w i =
    let r = from_map (λ (m : NodeId). (m, v)) ns (n, w) i in (
      ap (λ (p : NodeId × WayId). WayKey p.1) (sym r.2),
      subst (λ m. In m ns)
          (sym (ap (λ (p : NodeId × WayId). p.0) r.2)) r.1,
    )
from_references (RelationKey a) ns n w i = absurd i

from_node_pair : (r q : RelationId) (k : Key) (n : NodeId) → In (n, q) (node_pair r k) → (k ≡ NodeKey n) × (r ≡ q)
from_node_pair r q (NodeKey m) n (inl e) =
    (ap (λ (p : NodeId × RelationId). NodeKey p.0) (sym e), ap (λ (p : NodeId × RelationId). p.1) (sym e))
from_node_pair r q (NodeKey m) n (inr i) = absurd i
from_node_pair r q (WayKey w) n i = absurd i
from_node_pair r q (RelationKey s) n i = absurd i

from_way_pair : (r q : RelationId) (k : Key) (w : WayId) → In (w, q) (way_pair r k) → (k ≡ WayKey w) × (r ≡ q)
from_way_pair r q (NodeKey m) w i = absurd i
from_way_pair r q (WayKey v) w (inl e) = (
  ap (λ (p : WayId × RelationId). WayKey p.0) (sym e),
  ap
      (λ (p : WayId × RelationId). p.1) (sym e),
)
from_way_pair r q (WayKey v) w (inr i) = absurd i
from_way_pair r q (RelationKey s) w i = absurd i

-- the pairs of a relation's members of one kind
module _ {X : Type 0} (key : X → Key) (pair : RelationId → Key → List (X × RelationId))
    (from_pair : (r q : RelationId) (k : Key) (x : X) → In (x, q) (pair r k) → (k ≡ key x) × (r ≡ q)) where
  in_pairs : (ms : List Member) (x : X) (r : RelationId) → In (x, r) (pair r (key x))
      → In (key x) (map (λ m. m.item) ms) → In (x, r) (flat_map (λ m. pair r m.item) ms)
  in_pairs ms x r one i =
      let f = from_map (λ (m : Member). m.item) ms (key x) i in
      in_flat (λ m. pair r m.item) ms f.0 (x, r) f.1 (subst (λ j. In (x, r) (pair r j)) f.2 one)

  from_pairs : (ms : List Member) (x : X) (q r : RelationId) → In (x, r) (flat_map (λ m. pair q m.item) ms)
      → (RelationKey q ≡ RelationKey r) × In (key x) (map (λ m. m.item) ms)
  from_pairs ms x q r i =
      let f = from_flat (λ (m : Member). pair q m.item) ms (x, r) i in
      let p = from_pair q r (f.0).item x f.2 in
      (ap RelationKey p.1, subst (λ j. In j (map (λ m. m.item) ms)) p.0 (in_map (λ (m : Member). m.item) ms f.0 f.1))

in_node_rules : (k : Key) (ms : List Member) (n : NodeId) (r : RelationId) → k ≡ RelationKey r
    → In (NodeKey n) (map (λ m. m.item) ms) → In (n, r) (nodes_with_rule k ms)
in_node_rules k ms n r e i = subst (λ j. In (n, r) (nodes_with_rule j ms)) (sym e)
    (in_pairs NodeKey node_pair from_node_pair ms n r (inl refl) i)

from_node_rules : (k : Key) (ms : List Member) (n : NodeId) (r : RelationId) → In (n, r) (nodes_with_rule k ms)
    → (k ≡ RelationKey r) × In (NodeKey n) (map (λ m. m.item) ms)
from_node_rules (NodeKey a) ms n r i = absurd i
from_node_rules (WayKey a) ms n r i = absurd i
from_node_rules (RelationKey q) ms n r i = from_pairs NodeKey node_pair from_node_pair ms n q r i

in_way_rules : (k : Key) (ms : List Member) (w : WayId) (r : RelationId) → k ≡ RelationKey r
    → In (WayKey w) (map (λ m. m.item) ms) → In (w, r) (ways_with_rule k ms)
in_way_rules k ms w r e i = subst (λ j. In (w, r) (ways_with_rule j ms)) (sym e)
    (in_pairs WayKey way_pair from_way_pair ms w r (inl refl) i)

from_way_rules : (k : Key) (ms : List Member) (w : WayId) (r : RelationId) → In (w, r) (ways_with_rule k ms)
    → (k ≡ RelationKey r) × In (WayKey w) (map (λ m. m.item) ms)
from_way_rules (NodeKey a) ms w r i = absurd i
from_way_rules (WayKey a) ms w r i = absurd i
from_way_rules (RelationKey q) ms w r i = from_pairs WayKey way_pair from_way_pair ms w q r i

-- ---- visible bodies

from_highway : (b : Body) (n : NodeId) → In n (highway_nodes b)
    → (w : Way) × (b ≡ WayBody w) × IsTrue (has_highway w.tags) × In n w.refs
from_highway (NodeBody m) n i = absurd i
from_highway (WayBody w) n i =
    elim (has_highway w.tags) as (λ t. has_highway w.tags ≡ t → In n (cond t w.refs [])
    → (v : Way) × (WayBody w ≡ WayBody v) × IsTrue (has_highway v.tags) × In n v.refs) [
      | true ↦ λ t j. (w, refl, t, j)
      | false ↦ λ t j. absurd j
    ] refl i
from_highway (RelationBody r) n i = absurd i
from_highway Deleted n i = absurd i

in_highway : (b : Body) (w : Way) (n : NodeId) → b ≡ WayBody w → IsTrue (has_highway w.tags) → In n w.refs
    → In n (highway_nodes b)
in_highway b w n e h i = subst (λ c. In n (highway_nodes c)) (sym e) (subst (λ t. In n (cond t w.refs [])) (sym h) i)

from_rule : (b : Body) (k : Key) → In k (map (λ m. m.item) (rule_members b))
    → (r : Relation) × (b ≡ RelationBody r) × IsTrue (is_restriction r.tags) × In k (map (λ m. m.item) r.members)
from_rule (NodeBody m) k i = absurd i
from_rule (WayBody w) k i = absurd i
from_rule (RelationBody r) k i =
    elim (is_restriction r.tags) as (λ t. is_restriction r.tags ≡ t → In k (map (λ m. m.item) (cond t r.members []))
    → (q : Relation) × (RelationBody r ≡ RelationBody q) × IsTrue (is_restriction q.tags)
    × In k (map (λ m. m.item) q.members)) [
      | true ↦ λ t j. (r, refl, t, j)
      | false ↦ λ t j. absurd j
    ] refl i
from_rule Deleted k i = absurd i

in_rule : (b : Body) (r : Relation) (k : Key) → b ≡ RelationBody r → IsTrue (is_restriction r.tags)
    → In k (map (λ m. m.item) r.members) → In k (map (λ m. m.item) (rule_members b))
in_rule b r k e h i = subst (λ c. In k (map (λ m. m.item) (rule_members c))) (sym e)
    (subst (λ t. In k (map (λ m. m.item) (cond t r.members []))) (sym h) i)

way_there : (o : Option Entry) (w : Way) → way_in (body_in o) ≡ Some w
    → (e : Entry) × (o ≡ Some e) × (e.body ≡ WayBody w)
way_there None w h = cc
way_there (Some e) w h = (e, refl, way_body e.body h)
  where
    way_body : (b : Body) → way_in (elim b [
      | NodeBody n ↦ Some (NodeBody n)
      | WayBody w ↦ Some (WayBody w)
      | RelationBody r ↦ Some (RelationBody r)
      | Deleted ↦ None
    ]) ≡ Some w → b ≡ WayBody w
    way_body (NodeBody n) h = cc
    way_body (WayBody v) h = cc
    way_body (RelationBody r) h = cc
    way_body Deleted h = cc

relation_there : (o : Option Entry) (r : Relation) → relation_in (body_in o) ≡ Some r
    → (e : Entry) × (o ≡ Some e) × (e.body ≡ RelationBody r)
relation_there None r h = cc
relation_there (Some e) r h = (e, refl, relation_body e.body h)
  where
    relation_body : (b : Body) → relation_in (elim b [
      | NodeBody n ↦ Some (NodeBody n)
      | WayBody w ↦ Some (WayBody w)
      | RelationBody r ↦ Some (RelationBody r)
      | Deleted ↦ None
    ]) ≡ Some r → b ≡ RelationBody r
    relation_body (NodeBody n) h = cc
    relation_body (WayBody v) h = cc
    relation_body (RelationBody q) h = cc
    relation_body Deleted h = cc

-- ---- no objects have no links

no_way : (w : WayId) (n : NodeId) → RefersTo empty w n → ⊥
unfolding way_of visible
no_way w n r = let e = way_there (get empty (WayKey w)) r.body r.is in let f = get-empty {X = Entry} key_cmp (WayKey w)
    in let g = e.1 in cc

no_relation : (r : RelationId) (k : Key) → HasMember empty r k → ⊥
unfolding relation_of visible
no_relation r k h = let e = relation_there (get empty (RelationKey r)) h.body h.is in let f = get-empty {X = Entry}
    key_cmp (RelationKey r) in let g = e.1 in cc

nothing_in : {K V : Type 0} (R : K → K → Ordering) (held : Held K V) (k : K) (v : V) → held ≡ ([], []) → Has R held k v
    → ⊥
nothing_in {K} {V} R held k v e h = in_from_contains {A = K × V} [] (k, v) (subst (λ (it : Held K V). Has R it k v) e h)

pub empty_indexed : (held : References) → held.ways ≡ ([], []) → held.node_rules ≡ ([], [])
    → held.way_rules ≡ ([], []) → IsIndexed empty held
empty_indexed held ways nodes rules = record {
  ways = λ n w. (λ c. absurd (nothing_in node_cmp held.ways n w ways c), λ h. absurd (no_way w n h));
  node_rules = λ n r. (
    λ c. absurd (nothing_in node_cmp held.node_rules n r nodes c),
    λ h. absurd (no_relation r (NodeKey n) h),
  );
  way_rules = λ w r. (
    λ c. absurd (nothing_in way_cmp held.way_rules w r rules c),
    λ h. absurd (no_relation r (WayKey w) h),
  );
}

-- ---- entries of one kind

module _ (M : Objects) where
  way_shown : (x : Entry) (w : WayId) (v : Way) → get M (WayKey w) ≡ Some x → x.body ≡ WayBody v
      → way_of M w ≡ Some v
  unfolding way_of visible
  way_shown x w v h e = ap (λ o. way_in (body_in o)) h ∙ shown x.body v e
    where
      shown : (b : Body) (v : Way) → b ≡ WayBody v
          → way_in (elim b [
            | NodeBody n ↦ Some (NodeBody n)
            | WayBody w ↦ Some (WayBody w)
            | RelationBody r
                ↦ Some (RelationBody r)
            | Deleted ↦ None
          ]) ≡ Some v
      shown (NodeBody n) v e = cc
      shown (WayBody u) v e = cc
      shown (RelationBody r) v e = cc
      shown Deleted v e = cc

  relation_shown : (x : Entry) (r : RelationId) (q : Relation) → get M (RelationKey r) ≡ Some x
      → x.body ≡ RelationBody q → relation_of M r ≡ Some q
  unfolding relation_of visible
  relation_shown x r q h e = ap (λ o. relation_in (body_in o)) h ∙ shown x.body q e
    where
      shown : (b : Body) (q : Relation) → b ≡ RelationBody q
          → relation_in (elim b [
            | NodeBody n ↦ Some (NodeBody n)
            | WayBody w ↦ Some (WayBody w)
            | RelationBody r
                ↦ Some (RelationBody r)
            | Deleted ↦ None
          ]) ≡ Some q
      shown (NodeBody n) q e = cc
      shown (WayBody u) q e = cc
      shown (RelationBody p) q e = cc
      shown Deleted q e = cc

  entry_way : (w : WayId) (v : Way) → way_of M w ≡ Some v
      → (e : Entry) × (get M (WayKey w) ≡ Some e) × (e.body ≡ WayBody v)
  unfolding way_of visible
  entry_way w v h = way_there (get M (WayKey w)) v h

  entry_relation : (r : RelationId) (q : Relation) → relation_of M r ≡ Some q
      → (e : Entry) × (get M (RelationKey r) ≡ Some e) × (e.body ≡ RelationBody q)
  unfolding relation_of visible
  entry_relation r q h = relation_there (get M (RelationKey r)) q h

  abbrev body_of : Entry → Body
  body_of e = e.body

  module _ (is_one : Key → Bool) (items : List Event) (are : AreEntriesOf is_one M items) where
    item_found : (x : Event) (k : Key) → In x items → x.key ≡ k → get M k ≡ Some (entry_of x)
    item_found x k i e = ap (get M) (sym e) ∙ (are.own x (contains_from_in items x i)).1

    found_item : (k : Key) (e : Entry) → IsTrue (is_one k) → get M k ≡ Some e
        → (x : Event) × In x items × (x.key ≡ k) × (entry_of x ≡ e)
    found_item k e one h = let f = are.all k e one h in (f.0, in_from_contains items f.0 f.1, f.2, f.3)

  -- ---- the pairs are the links

  pub way_links : (items : List Event) → AreEntriesOf is_way M items → (n : NodeId) (w : WayId)
      → Contains (flat_map way_references items) (n, w) ↔ RefersTo M w n
  way_links items are n w = (to, back)
    where
      to : Contains (flat_map way_references items) (n, w) → RefersTo M w n
      to c =
          let f = from_flat way_references items (n, w) (in_from_contains _ _ c) in
          let p = from_references (f.0).key (highway_nodes (f.0).body) n w f.2 in
          let q = from_highway (f.0).body n p.1 in
          record {
            body = q.0;
            is = way_shown (entry_of f.0) w q.0 (item_found is_way items are f.0 (WayKey w) f.1 p.0) q.1;
            highway = q.2;
            member = contains_from_in _ _ q.3;
          }

      back : RefersTo M w n → Contains (flat_map way_references items) (n, w)
      back r =
          let e = entry_way w r.body r.is in
          let f = found_item is_way items are (WayKey w) e.0 refl e.1 in
          let b : (f.0).body ≡ WayBody r.body = ap body_of f.3 ∙ e.2 in
          contains_from_in _ _ (in_flat way_references items f.0 (n, w) f.1
          (in_references (f.0).key (highway_nodes (f.0).body) n w f.2
          (in_highway (f.0).body r.body n b r.highway (in_from_contains _ _ r.member))))

  -- the same of relations, whose pairs are of one kind of members
  module _ {X : Type 0} (key : X → Key) (rules : Event → List (X × RelationId))
      (into : (e : Event) (x : X) (r : RelationId) → e.key ≡ RelationKey r
      → In (key x) (map (λ m. m.item) (rule_members e.body)) → In (x, r) (rules e))
      (from : (e : Event) (x : X) (r : RelationId) → In (x, r) (rules e)
      → (e.key ≡ RelationKey r) × In (key x) (map (λ m. m.item) (rule_members e.body))) where
    member_links : (items : List Event) → AreEntriesOf is_relation M items → (x : X) (r : RelationId)
        → Contains (flat_map rules items) (x, r) ↔ HasMember M r (key x)
    member_links items are x r = (to, back)
      where
        to : Contains (flat_map rules items) (x, r) → HasMember M r (key x)
        to c =
            let f = from_flat rules items (x, r) (in_from_contains _ _ c) in
            let p = from f.0 x r f.2 in
            let q = from_rule (f.0).body (key x) p.1 in
            record {
              body = q.0;
              is = relation_shown (entry_of f.0) r q.0
                  (item_found is_relation items are f.0 (RelationKey r) f.1 p.0) q.1;
              restriction = q.2;
              member
                  = contains_from_in _ _ q.3;
            }

        back : HasMember M r (key x) → Contains (flat_map rules items) (x, r)
        back h =
            let e = entry_relation r h.body h.is in
            let f = found_item is_relation items are (RelationKey r) e.0 refl e.1 in
            let b : (f.0).body ≡ RelationBody h.body = ap body_of f.3 ∙ e.2 in
            contains_from_in _ _ (in_flat rules items f.0 (x, r) f.1
            (into f.0 x r f.2 (in_rule (f.0).body h.body (key x) b h.restriction (in_from_contains _ _ h.member))))

  pub node_links : (items : List Event) → AreEntriesOf is_relation M items → (n : NodeId) (r : RelationId)
      → Contains (flat_map node_rules items) (n, r) ↔ HasMember M r (NodeKey n)
  node_links = member_links NodeKey node_rules (λ e. in_node_rules e.key (rule_members e.body))
      (λ e. from_node_rules e.key (rule_members e.body))

  pub rule_links : (items : List Event) → AreEntriesOf is_relation M items → (w : WayId) (r : RelationId)
      → Contains (flat_map way_rules items) (w, r) ↔ HasMember M r (WayKey w)
  rule_links = member_links WayKey way_rules (λ e. in_way_rules e.key (rule_members e.body))
      (λ e. from_way_rules e.key (rule_members e.body))

  -- ---- the pairs of some keys are the links of these

  module _ {A : Type 0} (pairs : Key → Body → List A) (z : A) where
    from_entry : (k : Key) (o : Option Entry) → In z (elim o [ None ↦ [] | Some entry ↦ pairs k entry.body ])
        → (e : Entry) × (o ≡ Some e) × In z (pairs k e.body)
    from_entry k None i = absurd i
    from_entry k (Some e) i = (e, refl, i)

    in_entry : (k : Key) (o : Option Entry) (e : Entry) → o ≡ Some e → In z (pairs k e.body)
        → In z (elim o [ None ↦ [] | Some entry ↦ pairs k entry.body ])
    in_entry k o e is i =
        subst (λ x. In z (elim x [ None ↦ [] | Some entry ↦ pairs k entry.body ])) (sym is) i

  pub way_links_at : (keys : List Key) (n : NodeId) (w : WayId)
      → Contains (flat_map (way_references_at M) keys) (n, w) ↔ (RefersTo M w n × Contains keys (WayKey w))
  way_links_at keys n w = (to, back)
    where
      to : Contains (flat_map (way_references_at M) keys) (n, w) → RefersTo M w n × Contains keys (WayKey w)
      to c =
          let f = from_flat (way_references_at M) keys (n, w) (in_from_contains _ _ c) in
          let a = from_entry (λ k body. with_way k (highway_nodes body)) (n, w) f.0 (get M f.0) f.2 in
          let p = from_references f.0 (highway_nodes (a.0).body) n w a.2 in
          let q = from_highway (a.0).body n p.1 in (
            record {
              body = q.0;
              is = way_shown a.0 w q.0 (ap (get M) (sym p.0) ∙ a.1) q.1;
              highway = q.2;
              member = contains_from_in _ _ q.3;
            },
            contains_from_in keys (WayKey w) (subst (λ k. In k keys) p.0 f.1),
          )

      back : RefersTo M w n × Contains keys (WayKey w) → Contains (flat_map (way_references_at M) keys) (n, w)
      back (r, c) =
          let e = entry_way w r.body r.is in
          contains_from_in _ _ (in_flat (way_references_at M) keys (WayKey w) (n, w)
          (in_from_contains keys (WayKey w) c)
          (in_entry (λ k body. with_way k (highway_nodes body)) (n, w) (WayKey w) (get M (WayKey w)) e.0 e.1
          (in_references (WayKey w) (highway_nodes (e.0).body) n w refl
          (in_highway (e.0).body r.body n e.2 r.highway (in_from_contains _ _ r.member)))))

  module _ {X : Type 0} (key : X → Key) (rules : Key → Body → List (X × RelationId))
      (into : (k : Key) (body : Body) (x : X) (r : RelationId) → k ≡ RelationKey r
      → In (key x) (map (λ m. m.item) (rule_members body)) → In (x, r) (rules k body))
      (from : (k : Key) (body : Body) (x : X) (r : RelationId) → In (x, r) (rules k body)
      → (k ≡ RelationKey r) × In (key x) (map (λ m. m.item) (rule_members body))) where
    member_links_at : (keys : List Key) (x : X) (r : RelationId)
        → Contains (flat_map (pairs_at rules M) keys) (x, r) ↔ (HasMember M r (key x) × Contains keys (RelationKey r))
    member_links_at keys x r = (to, back)
      where
        to : Contains (flat_map (pairs_at rules M) keys) (x, r) → HasMember M r (key x) × Contains keys (RelationKey r)
        to c =
            let f = from_flat (pairs_at rules M) keys (x, r) (in_from_contains _ _ c) in
            let a = from_entry rules (x, r) f.0 (get M f.0) f.2 in
            let p = from f.0 (a.0).body x r a.2 in
            let q = from_rule (a.0).body (key x) p.1 in (
              record {
                body = q.0;
                is = relation_shown a.0 r q.0 (ap (get M) (sym p.0) ∙ a.1) q.1;
                restriction = q.2;
                member = contains_from_in _ _ q.3;
              },
              contains_from_in keys (RelationKey r) (subst (λ k. In k keys) p.0 f.1),
            )

        back : HasMember M r (key x) × Contains keys (RelationKey r)
            → Contains (flat_map (pairs_at rules M) keys) (x, r)
        back (h, c) =
            let e = entry_relation r h.body h.is in
            contains_from_in _ _ (in_flat (pairs_at rules M) keys (RelationKey r) (x, r)
            (in_from_contains keys (RelationKey r) c)
            (in_entry rules (x, r) (RelationKey r) (get M (RelationKey r)) e.0 e.1
            (into (RelationKey r) (e.0).body x r refl
            (in_rule (e.0).body h.body (key x) e.2 h.restriction (in_from_contains _ _ h.member)))))

  pub node_links_at : (keys : List Key) (n : NodeId) (r : RelationId)
      → Contains (flat_map (node_rules_at M) keys) (n, r) ↔ (HasMember M r (NodeKey n) × Contains keys (RelationKey r))
  node_links_at = member_links_at NodeKey (λ k body. nodes_with_rule k (rule_members body))
      (λ k body. in_node_rules k (rule_members body)) (λ k body. from_node_rules k (rule_members body))

  pub rule_links_at : (keys : List Key) (w : WayId) (r : RelationId)
      → Contains (flat_map (way_rules_at M) keys) (w, r) ↔ (HasMember M r (WayKey w) × Contains keys (RelationKey r))
  rule_links_at = member_links_at WayKey (λ k body. ways_with_rule k (rule_members body))
      (λ k body. in_way_rules k (rule_members body)) (λ k body. from_way_rules k (rule_members body))

-- ---- the pairs of a key

module _ {A : Type 0} (pairs : Key → Body → List A) (M : Objects) (k : Key) where
  pub at_some : (e : Event) → get M k ≡ Some (entry_of e) → e.key ≡ k → pairs e.key e.body ≡ pairs_at pairs M k
  at_some e is own = ap (λ n. pairs n e.body) own
      ∙ sym (ap (λ o. elim o [ None ↦ [] | Some entry ↦ pairs k entry.body ]) is)

  pub at_none : get M k ≡ None → pairs_at pairs M k ≡ []
  at_none is = ap (λ o. elim o [ None ↦ [] | Some entry ↦ pairs k entry.body ]) is

-- ---- links of ways and relations whose bodies are the same

pub refers_same : (M N : Objects) (w : WayId) (n : NodeId) → visible M (WayKey w) ≡ visible N (WayKey w)
    → RefersTo M w n → RefersTo N w n
unfolding way_of
refers_same M N w n e r =
    record { body = r.body; is = ap way_in (sym e) ∙ r.is; highway = r.highway; member = r.member }

pub member_same : (M N : Objects) (r : RelationId) (k : Key) → visible M (RelationKey r) ≡ visible N (RelationKey r)
    → HasMember M r k → HasMember N r k
unfolding relation_of
member_same M N r k e h =
    record { body = h.body; is = ap relation_in (sym e) ∙ h.is; restriction = h.restriction; member = h.member }
