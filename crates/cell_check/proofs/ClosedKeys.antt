-- What is looked at tells whether a key is closed.
use Rattle.std.proofs.Common.{◌≡◌, ◌↔◌, inl, inr, ℕ, ◌+◌, ◌<◌, ◌≤◌, Bool, true, false, IsTrue, List, [], ◌∷◌, ◌++◌}
use Rattle.std.proofs.Common.{Option, Some, None, Contains, map, length, take, get_or, refl, ap, sym, subst, ◌∙◌}
use Rattle.std.specs.FinMap.{get}
use Rattle.std.proofs.lemmas.Bool.{false≢true}
use Rattle.std.proofs.lemmas.List.{take_all}
use Rattle.std.proofs.lemmas.List.Elements.{Contains-append_left}
use Rattle.road_base.specs.declared.ids.NodeId.{NodeId}
use Rattle.road_base.specs.declared.ids.WayId.{WayId}
use Rattle.road_base.specs.declared.ids.RelationId.{RelationId}
use Rattle.road_base.specs.declared.ids.Key.{Key}
use Rattle.road_base.specs.declared.location.Location.{Location}
use Rattle.road_base.specs.declared.objects.Node.{Node}
use Rattle.road_base.specs.declared.objects.Way.{Way}
use Rattle.road_base.specs.declared.objects.Relation.{Relation}
use Rattle.road_base.specs.declared.objects.Member.{Member}
use Rattle.road_base.specs.declared.objects.Body.{Body}
use Rattle.road_base.specs.declared.objects.Body.TheVariants.{Node as NodeBody, Way as WayBody}
use Rattle.road_base.specs.declared.objects.Body.TheVariants.{Relation as RelationBody, Deleted}
use Rattle.road_base.specs.Objects.{Objects, Entry, body_in, visible, node_of, way_of, relation_of}
use Rattle.ordered_lists.proofs.ListMembers.{contains_from_in, in_get, in_end, contains_more, contains_none}
use Rattle.ordered_lists.proofs.ListMembers.{contains_map, contains_from_map}
use Rattle.ordered_lists.proofs.JoinedLists.{one_more}
use Rattle.map_cells.specs.declared.area.Area.{Area}
use Rattle.map_cells.specs.Areas.{is_in}
use Rattle.map_cells.specs.Cells.{IsLocatedIn, IsInner, IsThere, HasItsMembers, IsClosed}
use Rattle.map_cells.specs.Owners.{place_in}
use Rattle.cell_check.specs.Closing.{HasNodeIn, AreThere, IsVisible, AreOpenAmong, is_shown}

-- ---- nodes

module _ (M : Objects) (area : Area) where
  from_node : (n : NodeId) (o : Option Node) → node_of M n ≡ o → (place : Location) → place_in o ≡ Some place
      → is_in area place ≡ true → IsLocatedIn M area n
  from_node n None is place at there = absurd (cc)
  from_node n (Some body) is place at there =
      record { body = body; is = is; place = place; located = at; inside = there }

  pub located_where : (n : NodeId) (place : Location) (b : Bool) → b ≡ is_in area place
      → Some place ≡ place_in (node_of M n) → IsTrue b ↔ IsLocatedIn M area n
  located_where n place b e at = (
    λ t. from_node n (node_of M n) refl place (sym at) (sym e ∙ t),
    λ l.
        let some : Some place ≡ Some l.place = at ∙ ap place_in l.is ∙ l.located in
        let same : place ≡ l.place = cc in
        e ∙ ap (is_in area) same ∙ l.inside,
  )

  -- ---- ways

  pub has_here : (nodes : List NodeId) (i : ℕ) (d : NodeId) → i < length nodes
      → IsLocatedIn M area (get_or nodes i d) → HasNodeIn M area nodes
  has_here nodes i d within l = (get_or nodes i d, contains_from_in nodes _ (in_get nodes i d within), l)

  pub has_no_more : (nodes : List NodeId) (i : ℕ) (d : NodeId) → i < length nodes
      → (HasNodeIn M area (take i nodes) → ⊥) → (IsLocatedIn M area (get_or nodes i d) → ⊥)
      → HasNodeIn M area (take (i + 1) nodes) → ⊥
  has_no_more nodes i d within before not (n, has, l) = elim (one_more nodes i d n within has) [
    | inl last ↦ not (subst (IsLocatedIn M area) last l)
    | inr earlier ↦ before (n, earlier, l)
  ]

  pub has_none : (nodes : List NodeId) (i : ℕ) → length nodes ≤ i → (HasNodeIn M area (take i nodes) → ⊥)
      → HasNodeIn M area nodes → ⊥
  has_none nodes i past none =
      subst (λ (l : List NodeId). HasNodeIn M area l → ⊥) (take_all i nodes past) none

  pub inner_where : (w : WayId) (body : Way) (nodes : List NodeId) (b : Bool) → Some body ≡ way_of M w
      → nodes ≡ body.refs → IsTrue b ↔ HasNodeIn M area nodes → IsTrue b ↔ IsInner M area w
  inner_where w body nodes b is same has = (
    λ t.
        let h = has.0 t in
        record {
          body = body;
          is = sym is;
          node = h.0;
          named = subst (λ (l : List NodeId). Contains l h.0) same h.1;
          inside = h.2;
        },
    λ inner.
        let some : Some inner.body ≡ Some body = sym inner.is ∙ sym is in
        let one : inner.body ≡ body = cc in
        has.1 (
          inner.node,
          subst (λ (l : List NodeId). Contains l inner.node) (sym same)
              (subst (λ (b : Way). Contains b.refs inner.node) one inner.named),
          inner.inside,
        ),
  )

-- ---- restrictions

module _ (M : Objects) where
  there_first : (members : List Member) → AreThere M (map (λ m. m.item) (take 0 members))
  there_first members k has = absurd (contains_none k has)

  pub there_more : (members : List Member) (i : ℕ) (d : Member) → i < length members
      → AreThere M (map (λ m. m.item) (take i members)) → IsThere M (get_or members i d).item
      → AreThere M (map (λ m. m.item) (take (i + 1) members))
  there_more members i d within before here k has =
      let r = contains_from_map (λ m. m.item) (take (i + 1) members) k has in
      elim (one_more members i d r.0 within r.1) [
        | inl last ↦ subst (IsThere M) (sym (r.2 ∙ ap (λ (m : Member). m.item) last)) here
        | inr earlier ↦ before k
            (subst (Contains (map (λ m. m.item) (take i members))) (sym r.2)
            (contains_map (λ m. m.item) (take i members) r.0 earlier))
      ]

  pub there_not : (members : List Member) (i : ℕ) (d : Member) → i < length members
      → (IsThere M (get_or members i d).item → ⊥) → AreThere M (map (λ m. m.item) members) → ⊥
  there_not members i d within not all = not (all (get_or members i d).item
      (contains_map (λ m. m.item) members (get_or members i d)
      (contains_from_in members _ (in_get members i d within))))

  pub there_all : (members : List Member) (i : ℕ) → length members ≤ i
      → AreThere M (map (λ m. m.item) (take i members)) → AreThere M (map (λ m. m.item) members)
  there_all members i past all =
      subst (λ (l : List Member). AreThere M (map (λ m. m.item) l)) (take_all i members past) all

  pub members_where : (r : RelationId) (body : Relation) (members : List Member) (b : Bool)
      → Some body ≡ relation_of M r → members ≡ body.members
      → IsTrue b ↔ AreThere M (map (λ m. m.item) members) → IsTrue b ↔ HasItsMembers M r
  members_where r body members b is same there = (
    λ t. record {
      body = body;
      is = sym is;
      members = subst (λ (l : List Member). AreThere M (map (λ m. m.item) l)) same (there.0 t);
    },
    λ h.
        let some : Some h.body ≡ Some body = sym h.is ∙ sym is in
        let one : h.body ≡ body = cc in
        there.1 (subst (λ (l : List Member). AreThere M (map (λ m. m.item) l)) (sym same)
        (subst (λ (c : Relation). AreThere M (map (λ m. m.item) c.members)) one h.members)),
  )

  -- ---- what is there

  shown : (x : Entry) → is_shown x.body ≡ true → (body : Body) × (body_in (Some x) ≡ Some body)
  shown x t = by_body x.body t
    where
      by_body : (b : Body) → is_shown b ≡ true
          → (body : Body) × (body_in (Some (record { version = x.version; body = b })) ≡ Some body)
      by_body (NodeBody n) t = (NodeBody n, refl)
      by_body (WayBody w) t = (WayBody w, refl)
      by_body (RelationBody r) t = (RelationBody r, refl)
      by_body Deleted t = absurd (false≢true t)

  hidden : (x : Entry) (body : Body) → body_in (Some x) ≡ Some body → is_shown x.body ≡ true
  hidden x body e = by_body x.body e
    where
      by_body : (b : Body) → body_in (Some (record { version = x.version; body = b })) ≡ Some body
          → is_shown b ≡ true
      by_body (NodeBody n) e = refl
      by_body (WayBody w) e = refl
      by_body (RelationBody r) e = refl
      by_body Deleted e = cc

  pub seen_where : (k : Key) (x : Entry) (b : Bool) → Some x ≡ get M k → b ≡ is_shown x.body
      → IsTrue b ↔ IsVisible M k
  unfolding visible
  seen_where k x b at is = (
    λ t. let s = shown x (sym is ∙ t) in (s.0, ap body_in (sym at) ∙ s.1),
    λ v. is ∙ hidden x v.0 (ap body_in at ∙ v.1),
  )

  pub seen_nowhere : (k : Key) → None ≡ get M k → IsTrue false ↔ IsVisible M k
  unfolding visible
  seen_nowhere k at = (
    λ t. absurd (false≢true t),
    λ v. let none : None ≡ Some v.0 = ap body_in at ∙ v.1 in cc,
  )

-- ---- those that aren't closed

module _ (M : Objects) (area : Area) (keys old new : List Key) (key : Key) (before : AreOpenAmong M area keys old)
  where
    pub one_open : (IsClosed M area key → ⊥) → new ≡ old ++ key ∷ [] → AreOpenAmong M area (keys ++ key ∷ []) new
    one_open not more = record {
      none = λ k has closed. elim (contains_more old key k (subst (λ (l : List Key). Contains l k) more has)) [
        | inl earlier ↦ before.none k earlier closed
        | inr last ↦ not (subst (IsClosed M area) last closed)
      ];
      all = λ k has. elim (contains_more keys key k has) [
        | inl earlier ↦ elim (before.all k earlier) [
          | inl closed ↦ inl closed
          | inr is ↦ inr (subst (λ (l : List Key). Contains l k) (sym more)
              (Contains-append_left old (key ∷ []) k is))
        ]
        | inr last ↦ inr (subst (Contains new) (sym last) (subst (λ (l : List Key). Contains l key) (sym more)
            (contains_from_in (old ++ key ∷ []) key (in_end old key []))))
      ];
    }

    pub one_closed : IsClosed M area key → AreOpenAmong M area (keys ++ key ∷ []) old
    one_closed is = record {
      none = before.none;
      all = λ k has. elim (contains_more keys key k has) [
        | inl earlier ↦ before.all k earlier
        | inr last ↦ inl (subst (IsClosed M area) (sym last) is)
      ];
    }

pub none_open : (M : Objects) (area : Area) (starts : List Key) → starts ≡ [] → AreOpenAmong M area [] starts
none_open M area starts none = record {
  none = λ k has closed. contains_none k (subst (λ (l : List Key). Contains l k) none has);
  all = λ k has. absurd (contains_none k has);
}
