-- Over a link of the map, from a closed key of a cell, one comes to what the cell keeps. So where all keys but the last
-- are closed, what is within some links in the map is kept.
use Rattle.std.proofs.Common.{◌≡◌, ℕ, zero, suc, inl, inr, Some, Contains, map, sym, ◌∙◌, subst}
use Rattle.road_base.specs.declared.ids.NodeId.{NodeId}
use Rattle.road_base.specs.declared.ids.WayId.{WayId}
use Rattle.road_base.specs.declared.ids.RelationId.{RelationId}
use Rattle.road_base.specs.declared.ids.Key.{Key}
use Rattle.road_base.specs.declared.ids.Key.TheVariants.{Node as NodeKey, Way as WayKey, Relation as RelationKey}
use Rattle.road_base.specs.declared.objects.Relation.{Relation}
use Rattle.road_base.specs.declared.objects.Body.{Body}
use Rattle.road_base.specs.Objects.{Objects, visible, relation_of}
use Rattle.road_model.specs.Links.{RefersTo, HasMember, IsLink, IsWithin, IsTouched}
use Rattle.road_model.proofs.LocalLinks.{within_turned}
use Rattle.map_cells.specs.declared.area.Area.{Area}
use Rattle.map_cells.specs.Cells.{IsLocatedIn, IsInner, NamesObject, Keeps, IsCell, IsThere, HasItsMembers, IsClosed}
use Rattle.map_cells.specs.Cells.{closed_radius, Passes}
use Rattle.map_cells.proofs.KeptLinks.{node_kept, way_kept, relation_kept, relation_there, refers_back, member_back}
use Rattle.map_cells.proofs.KeptLinks.{kept_untouched}

module _ (M C : Objects) (area : Area) (cell : IsCell M C area) where
  located_kept : (n : NodeId) → IsLocatedIn C area n → IsLocatedIn M area n
  located_kept n h = record {
    body = h.body;
    is = node_kept M C cell.part n h.body h.is;
    place = h.place;
    located = h.located;
    inside = h.inside;
  }

  inner_kept : (w : WayId) → IsInner C area w → IsInner M area w
  inner_kept w h = record {
    body = h.body;
    is = way_kept M C cell.part w h.body h.is;
    node = h.node;
    named = h.named;
    inside = located_kept h.node h.inside;
  }

  closed_kept : (k : Key) → IsClosed C area k → Keeps M C k
  closed_kept (NodeKey n) h = cell.nodes n (located_kept n h)
  closed_kept (WayKey w) h = cell.ways w (inner_kept w h)
  closed_kept (RelationKey r) h = relation_there M C cell.part r h.body h.is

  -- ---- over a link from a closed key

  to_way : (n : NodeId) (w : WayId) → IsLocatedIn C area n → RefersTo M w n → Keeps M C (WayKey w)
  to_way n w closed l = cell.ways w (record {
    body = l.body;
    is = l.is;
    node = n;
    named = l.member;
    inside = located_kept n closed;
  })

  names : (r : RelationId) (k : Key) → HasMember M r k → NamesObject M r k
  names r k l = record { body = l.body; is = l.is; named = l.member }

  -- a closed restriction is the map's, and a member of it that has to be there is there
  same_relation : (r : RelationId) (body : Relation) → (closed : HasItsMembers C r) → relation_of M r ≡ Some body
      → body ≡ closed.body
  same_relation r body closed is = let kept = relation_kept M C cell.part r closed.body closed.is in cc

  member_there : (r : RelationId) (k : Key) → HasItsMembers C r → HasMember M r k → IsThere C k
  member_there r k closed l = closed.members k
      (subst (λ (b : Relation). Contains (map (λ m. m.item) b.members) k) (same_relation r l.body closed l.is) l.member)

  body_kept : (k : Key) → ((body : Body) × (visible C k ≡ Some body)) → Keeps M C k
  body_kept k there = there.1 ∙ sym (cell.part k there.0 there.1)

  linked_kept : (a b : Key) → IsClosed C area a → IsLink M a b → Keeps M C b
  linked_kept (NodeKey n) (NodeKey m) closed l = absurd l
  linked_kept (NodeKey n) (WayKey w) closed l = to_way n w closed l
  linked_kept (NodeKey n) (RelationKey r) closed l = cell.of_nodes r n (located_kept n closed) (names r (NodeKey n) l)
  linked_kept (WayKey w) (NodeKey n) closed l =
      let m = refers_back M C w n (closed_kept (WayKey w) closed) l in cell.lines w m.body n m.is m.member
  linked_kept (WayKey w) (WayKey v) closed l = absurd l
  linked_kept (WayKey w) (RelationKey r) closed l = cell.of_ways r w (inner_kept w closed) (names r (WayKey w) l)
  linked_kept (RelationKey r) (NodeKey n) closed l = body_kept (NodeKey n) (member_there r (NodeKey n) closed l)
  linked_kept (RelationKey r) (WayKey w) closed l = body_kept (WayKey w) (member_there r (WayKey w) closed l)
  linked_kept (RelationKey r) (RelationKey q) closed l = absurd l

  -- both ends are kept, so the cell has the link
  link_back : (a b : Key) → Keeps M C a → Keeps M C b → IsLink M a b → IsLink C a b
  link_back (NodeKey n) (NodeKey m) here there l = l
  link_back (NodeKey n) (WayKey w) here there l = refers_back M C w n there l
  link_back (NodeKey n) (RelationKey r) here there l = member_back M C r (NodeKey n) there l
  link_back (WayKey w) (NodeKey n) here there l = refers_back M C w n here l
  link_back (WayKey w) (WayKey v) here there l = l
  link_back (WayKey w) (RelationKey r) here there l = member_back M C r (WayKey w) there l
  link_back (RelationKey r) (NodeKey n) here there l = member_back M C r (NodeKey n) here l
  link_back (RelationKey r) (WayKey w) here there l = member_back M C r (WayKey w) here l
  link_back (RelationKey r) (RelationKey q) here there l = l

  -- ---- within some links

  -- what is within n links in the map is so in the cell, if what is within n links in the cell is closed
  reached : (n : ℕ) (a k : Key) → ((b : Key) → IsWithin C n a b → IsClosed C area b) → IsWithin M n a k
      → IsWithin C n a k
  reached zero a k closed h = h
  reached (suc n) a k closed (inl h) = inl (reached n a k (λ b w. closed b (inl w)) h)
  reached (suc n) a k closed (inr h) =
      let back = reached n a h.0 (λ b w. closed b (inl w)) h.1 in
      let ends = closed h.0 (inl back) in
      inr (h.0, back, link_back h.0 k (closed_kept h.0 ends) (linked_kept h.0 k ends h.2) h.2)

  -- and what is one link further is kept
  further_kept : (n : ℕ) (a k : Key) → ((b : Key) → IsWithin C n a b → IsClosed C area b) → IsWithin M (suc n) a k
      → Keeps M C k
  further_kept n a k closed (inl h) = closed_kept k (closed k (reached n a k closed h))
  further_kept n a k closed (inr h) = linked_kept h.0 k (closed h.0 (reached n a h.0 closed h.1)) h.2

  pub passes_untouched : (w : WayId) → Passes C area w → IsTouched M C w → ⊥
  passes_untouched w passes = kept_untouched M C cell.part w (λ k near.
      further_kept closed_radius (WayKey w) k
      (λ b within. passes b (within_turned C closed_radius (WayKey w) b within)) near)
