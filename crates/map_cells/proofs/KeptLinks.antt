-- What a part of an object map has, the map has too: bodies, links, and what is within some links. A way is untouched
-- where the part keeps all that is near it in the map.
use Rattle.std.proofs.Common.{◌≡◌, ℕ, zero, suc, inl, inr, Option, Some, None, sym, ap, ◌∙◌}
use Rattle.road_base.specs.declared.ids.NodeId.{NodeId}
use Rattle.road_base.specs.declared.ids.WayId.{WayId}
use Rattle.road_base.specs.declared.ids.RelationId.{RelationId}
use Rattle.road_base.specs.declared.ids.Key.{Key}
use Rattle.road_base.specs.declared.ids.Key.TheVariants.{Node as NodeKey, Way as WayKey, Relation as RelationKey}
use Rattle.road_base.specs.declared.objects.Node.{Node}
use Rattle.road_base.specs.declared.objects.Way.{Way}
use Rattle.road_base.specs.declared.objects.Relation.{Relation}
use Rattle.road_base.specs.declared.objects.Body.{Body}
use Rattle.road_base.specs.declared.objects.Body.TheVariants.{Node as NodeBody, Way as WayBody}
use Rattle.road_base.specs.declared.objects.Body.TheVariants.{Relation as RelationBody, Deleted}
use Rattle.road_base.specs.Objects.{Objects, visible, node_of, way_of, relation_of, node_in, way_in, relation_in}
use Rattle.road_model.specs.Links.{RefersTo, HasMember, IsLink, IsWithin, IsTouched, link_radius}
use Rattle.road_model.proofs.LocalLinks.{way_same, relation_same, within_turned}
use Rattle.map_cells.specs.Cells.{IsPartOf, Keeps}

node_shown : (o : Option Body) (n : Node) → node_in o ≡ Some n → o ≡ Some (NodeBody n)
node_shown None n e = cc
node_shown (Some (NodeBody m)) n e = cc
node_shown (Some (WayBody w)) n e = cc
node_shown (Some (RelationBody r)) n e = cc
node_shown (Some Deleted) n e = cc

way_shown : (o : Option Body) (w : Way) → way_in o ≡ Some w → o ≡ Some (WayBody w)
way_shown None w e = cc
way_shown (Some (NodeBody n)) w e = cc
way_shown (Some (WayBody v)) w e = cc
way_shown (Some (RelationBody r)) w e = cc
way_shown (Some Deleted) w e = cc

relation_shown : (o : Option Body) (r : Relation) → relation_in o ≡ Some r → o ≡ Some (RelationBody r)
relation_shown None r e = cc
relation_shown (Some (NodeBody n)) r e = cc
relation_shown (Some (WayBody w)) r e = cc
relation_shown (Some (RelationBody q)) r e = cc
relation_shown (Some Deleted) r e = cc

module _ (M C : Objects) (part : IsPartOf C M) where
  pub node_kept : (n : NodeId) (body : Node) → node_of C n ≡ Some body → node_of M n ≡ Some body
  unfolding node_of
  node_kept n body e = ap node_in (part (NodeKey n) (NodeBody body) (node_shown (visible C (NodeKey n)) body e))

  pub way_kept : (w : WayId) (body : Way) → way_of C w ≡ Some body → way_of M w ≡ Some body
  unfolding way_of
  way_kept w body e = ap way_in (part (WayKey w) (WayBody body) (way_shown (visible C (WayKey w)) body e))

  pub relation_kept : (r : RelationId) (body : Relation) → relation_of C r ≡ Some body → relation_of M r ≡ Some body
  unfolding relation_of
  relation_kept r body e = ap relation_in
      (part (RelationKey r) (RelationBody body) (relation_shown (visible C (RelationKey r)) body e))

  -- a relation of the part is there as it is in the map
  pub relation_there : (r : RelationId) (body : Relation) → relation_of C r ≡ Some body → Keeps M C (RelationKey r)
  unfolding relation_of
  relation_there r body e =
      let shown = relation_shown (visible C (RelationKey r)) body e in
      shown ∙ sym (part (RelationKey r) (RelationBody body) shown)

  refers_kept : (w : WayId) (n : NodeId) → RefersTo C w n → RefersTo M w n
  refers_kept w n h = record {
    body = h.body;
    is = way_kept w h.body h.is;
    highway = h.highway;
    member = h.member;
  }

  member_kept : (r : RelationId) (k : Key) → HasMember C r k → HasMember M r k
  member_kept r k h = record {
    body = h.body;
    is = relation_kept r h.body h.is;
    restriction = h.restriction;
    member = h.member;
  }

  link_kept : (a b : Key) → IsLink C a b → IsLink M a b
  link_kept (NodeKey n) (NodeKey m) l = l
  link_kept (NodeKey n) (WayKey w) l = refers_kept w n l
  link_kept (NodeKey n) (RelationKey r) l = member_kept r (NodeKey n) l
  link_kept (WayKey w) (NodeKey n) l = refers_kept w n l
  link_kept (WayKey w) (WayKey v) l = l
  link_kept (WayKey w) (RelationKey r) l = member_kept r (WayKey w) l
  link_kept (RelationKey r) (NodeKey n) l = member_kept r (NodeKey n) l
  link_kept (RelationKey r) (WayKey w) l = member_kept r (WayKey w) l
  link_kept (RelationKey r) (RelationKey q) l = l

  within_kept : (n : ℕ) (a b : Key) → IsWithin C n a b → IsWithin M n a b
  within_kept zero a b h = h
  within_kept (suc n) a b (inl h) = inl (within_kept n a b h)
  within_kept (suc n) a b (inr h) = inr (h.0, within_kept n a h.0 h.1, link_kept h.0 b h.2)

  -- where the part keeps what is near the way in the map, it has nothing else near it, and the way is untouched
  pub kept_untouched : (w : WayId) → ((k : Key) → IsWithin M link_radius (WayKey w) k → Keeps M C k)
      → IsTouched M C w → ⊥
  kept_untouched w keeps touched = touched.1 (sym (keeps touched.0 (elim touched.2 [
    | inl near ↦ within_turned M link_radius touched.0 (WayKey w) near
    | inr near
        ↦ within_kept link_radius (WayKey w) touched.0 (within_turned C link_radius touched.0 (WayKey w) near)
  ])))

-- ---- a link of the map, where the part keeps the object that tells it

module _ (M C : Objects) where
  pub refers_back : (w : WayId) (n : NodeId) → Keeps M C (WayKey w) → RefersTo M w n → RefersTo C w n
  refers_back w n keeps h = record {
    body = h.body;
    is = way_same C M w keeps ∙ h.is;
    highway = h.highway;
    member = h.member;
  }

  pub member_back : (r : RelationId) (k : Key) → Keeps M C (RelationKey r) → HasMember M r k → HasMember C r k
  member_back r k keeps h = record {
    body = h.body;
    is = relation_same C M r keeps ∙ h.is;
    restriction = h.restriction;
    member = h.member;
  }
