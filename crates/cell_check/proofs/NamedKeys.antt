-- All keys that have to be closed are named by a way or by a restriction among the entries.
use Rattle.std.proofs.Common.{◌≡◌, ◌⊎◌, inl, inr, IsTrue, cond, List, [], ◌∷◌, map}
use Rattle.std.proofs.Common.{Contains, Option, Some, None, refl, sym, ap, subst, ◌∙◌}
use Rattle.std.specs.FinMap.{get}
use Rattle.std.specs.List.{flat_map}
use Rattle.std.proofs.lemmas.List.Elements.{Contains-append_left}
use Rattle.road_base.specs.declared.ids.NodeId.{NodeId}
use Rattle.road_base.specs.declared.ids.WayId.{WayId}
use Rattle.road_base.specs.declared.ids.RelationId.{RelationId}
use Rattle.road_base.specs.declared.ids.Key.{Key}
use Rattle.road_base.specs.declared.ids.Key.TheVariants.{Node as NodeKey, Way as WayKey, Relation as RelationKey}
use Rattle.road_base.specs.declared.objects.Way.{Way}
use Rattle.road_base.specs.declared.objects.Relation.{Relation}
use Rattle.road_base.specs.declared.objects.Body.{Body}
use Rattle.road_base.specs.declared.objects.Body.TheVariants.{Node as NodeBody, Way as WayBody}
use Rattle.road_base.specs.declared.objects.Body.TheVariants.{Relation as RelationBody, Deleted}
use Rattle.road_base.specs.declared.event.Event.{Event}
use Rattle.road_base.specs.Objects.{Objects, Entry, body_in, way_in, relation_in, visible, way_of, relation_of}
use Rattle.road_model.specs.Rules.{has_highway, is_restriction}
use Rattle.road_model.specs.Links.{RefersTo, HasMember, IsLink}
use Rattle.object_store.specs.Listed.{AreEntriesOf, is_any}
use Rattle.ordered_lists.proofs.ListMembers.{contains_head, contains_later, contains_map, contains_flat}
use Rattle.ordered_lists.proofs.ListMembers.{contains_from_in, in_end}
use Rattle.cell_check.specs.Candidates.{IsCandidate, named_by_highway, named_by_restriction, highway_names}
use Rattle.cell_check.specs.Candidates.{restriction_names, names_of_highway, names_of_way, names_of_rule}

way_body : (b : Body) (body : Way)
    → way_in (body_in (Some (record { version = 0; body = b }))) ≡ Some body → b ≡ WayBody body
way_body (NodeBody n) body e = cc
way_body (WayBody w) body e = cc
way_body (RelationBody r) body e = cc
way_body Deleted body e = cc

way_entry : (o : Option Entry) (body : Way)
    → way_in (body_in o) ≡ Some body → (x : Entry) × (o ≡ Some x) × (x.body ≡ WayBody body)
way_entry None body e = cc
way_entry (Some x) body e = (x, refl, way_body x.body body e)

rule_body : (b : Body) (body : Relation)
    → relation_in (body_in (Some (record { version = 0; body = b }))) ≡ Some body → b ≡ RelationBody body
rule_body (NodeBody n) body e = cc
rule_body (WayBody w) body e = cc
rule_body (RelationBody r) body e = cc
rule_body Deleted body e = cc

rule_entry : (o : Option Entry) (body : Relation)
    → relation_in (body_in o) ≡ Some body → (x : Entry) × (o ≡ Some x) × (x.body ≡ RelationBody body)
rule_entry None body e = cc
rule_entry (Some x) body e = (x, refl, rule_body x.body body e)

own_named : (w : WayId) (nodes : List NodeId) → Contains (names_of_highway w nodes) (WayKey w)
own_named w nodes = contains_from_in (names_of_highway w nodes) (WayKey w)
    (in_end (map (λ n. NodeKey n) nodes) (WayKey w) [])

module _ (M : Objects) (es rs : List Event) (all : AreEntriesOf is_any M es) (every : AreEntriesOf is_any M rs) where
  -- what the ways among the entries name, and what the restrictions do
  abbrev ByWay : Key → Type 0
  ByWay k = Contains (flat_map named_by_highway es) k

  abbrev ByRule : Key → Type 0
  ByRule k = Contains (flat_map named_by_restriction rs) k

  by_way : (w : WayId) (body : Way) → way_of M w ≡ Some body → IsTrue (has_highway body.tags) → (k : Key)
      → Contains (names_of_highway w body.refs) k → ByWay k
  unfolding way_of visible
  by_way w body seen tagged k has =
      let entry = way_entry (get M (WayKey w)) body seen in
      let event = all.all (WayKey w) entry.0 refl entry.1 in
      let body_of : event.0.body ≡ WayBody body = ap (λ x. x.body) event.3 ∙ entry.2 in
      let names : named_by_highway event.0 ≡ names_of_highway w body.refs =
      ap (λ q. highway_names q event.0.body) event.2
      ∙ ap (names_of_way w) body_of
      ∙ ap (λ t. cond t (names_of_highway w body.refs) []) tagged
      in
      contains_flat named_by_highway es event.0 k event.1 (subst (λ (l : List Key). Contains l k) (sym names) has)

  by_rule : (r : RelationId) (body : Relation) → relation_of M r ≡ Some body → IsTrue (is_restriction body.tags)
      → (k : Key) → Contains (RelationKey r ∷ map (λ m. m.item) body.members) k → ByRule k
  unfolding relation_of visible
  by_rule r body seen tagged k has =
      let entry = rule_entry (get M (RelationKey r)) body seen in
      let event = every.all (RelationKey r) entry.0 refl entry.1 in
      let body_of : event.0.body ≡ RelationBody body = ap (λ x. x.body) event.3 ∙ entry.2 in
      let names : named_by_restriction event.0 ≡ RelationKey r ∷ map (λ m. m.item) body.members =
      ap (λ q. restriction_names q event.0.body) event.2
      ∙ ap (names_of_rule r) body_of
      ∙ ap (λ t. cond t (RelationKey r ∷ map (λ m. m.item) body.members) []) tagged
      in
      contains_flat named_by_restriction rs event.0 k event.1 (subst (λ (l : List Key). Contains l k) (sym names) has)

  node_named : (w : WayId) (n : NodeId) → RefersTo M w n → ByWay (NodeKey n)
  node_named w n h = by_way w h.body h.is h.highway (NodeKey n)
      (Contains-append_left (map (λ n. NodeKey n) h.body.refs) (WayKey w ∷ []) (NodeKey n)
      (contains_map (λ n. NodeKey n) h.body.refs n h.member))

  way_named : (w : WayId) (n : NodeId) → RefersTo M w n → ByWay (WayKey w)
  way_named w n h = by_way w h.body h.is h.highway (WayKey w) (own_named w h.body.refs)

  member_named : (r : RelationId) (k : Key) → HasMember M r k → ByRule k
  member_named r k h =
      by_rule r h.body h.is h.restriction k (contains_later (RelationKey r) k _ h.member)

  rule_named : (r : RelationId) (k : Key) → HasMember M r k → ByRule (RelationKey r)
  rule_named r k h = by_rule r h.body h.is h.restriction (RelationKey r) (contains_head (RelationKey r) _)

  linked_named : (k c : Key) → IsLink M k c → ByWay k ⊎ ByRule k
  linked_named (NodeKey n) (NodeKey m) l = absurd l
  linked_named (NodeKey n) (WayKey w) l = inl (node_named w n l)
  linked_named (NodeKey n) (RelationKey r) l = inr (member_named r (NodeKey n) l)
  linked_named (WayKey w) (NodeKey n) l = inl (way_named w n l)
  linked_named (WayKey w) (WayKey v) l = absurd l
  linked_named (WayKey w) (RelationKey r) l = inr (member_named r (WayKey w) l)
  linked_named (RelationKey r) (NodeKey n) l = inr (rule_named r (NodeKey n) l)
  linked_named (RelationKey r) (WayKey w) l = inr (rule_named r (WayKey w) l)
  linked_named (RelationKey r) (RelationKey q) l = absurd l

  pub candidate_named : (k : Key) → IsCandidate M k
      → Contains (flat_map named_by_highway es) k ⊎ Contains (flat_map named_by_restriction rs) k
  candidate_named k (inl (c, link)) = linked_named k c link
  candidate_named k (inr (w, is, highway)) = inl (subst ByWay (sym is)
      (by_way w highway.body highway.visible highway.tagged (WayKey w) (own_named w highway.body.refs)))
