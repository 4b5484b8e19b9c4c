-- The keys that a change alters and the ways that it touches are finitely many, so there are lists of them.
use Rattle.std.proofs.Common.{◌≡◌, ℕ, zero, suc, List, [], ◌∷◌, ◌++◌, map, ◌⊎◌, inl, inr, refl, sym, ap, ◌∙◌, subst}
use Rattle.std.proofs.Common.{Option, Some, None, IsTrue, Contains, Bool, true, false, cond}
use Rattle.std.specs.FinMap.{get, entries, get-entries, find}
use Rattle.std.specs.Ordering.{int_eq}
use Rattle.std.proofs.lemmas.Bool.Decides.{Decides-int_eq}
use Rattle.road_base.specs.declared.ids.NodeId.{NodeId}
use Rattle.road_base.specs.declared.ids.WayId.{WayId}
use Rattle.road_base.specs.declared.ids.RelationId.{RelationId}
use Rattle.road_base.specs.declared.ids.Key.{Key}
use Rattle.road_base.specs.declared.ids.Key.TheVariants.{Node as NodeKey, Way as WayKey, Relation as RelationKey}
use Rattle.road_base.specs.declared.objects.Body.{Body}
use Rattle.road_base.specs.declared.objects.Way.{Way}
use Rattle.road_base.specs.declared.objects.Relation.{Relation}
use Rattle.road_base.specs.Objects.{Objects, Entry, key_cmp, visible, body_in, way_in, relation_in, way_of, relation_of}
use Rattle.road_model.specs.Rules.{has_highway, is_restriction}
use Rattle.road_model.specs.Links.{RefersTo, HasMember, IsLink, IsWithin, Differs, IsNear, IsTouched, AreTouched}
use Rattle.road_model.specs.Links.{AreChanged, link_radius}
use Rattle.road_model.specs.Orders.{way_cmp}
use Rattle.ordered_lists.proofs.ListMembers.{In, in_left, in_right, in_from_contains, contains_from_in}
use Rattle.ordered_lists.proofs.Decided.{Decided, decided_both, decided_not, decided_like, decided_true, decided_int}
use Rattle.ordered_lists.proofs.Enumerated.{Finite, fin_none, fin_one, fin_or, fin_by, fin_bind, fin_list}
use Rattle.ordered_lists.proofs.SortedLists.{listed}
use Rattle.road_base.proofs.KeyOrder.{key_cmp_total, key_cmp-IsAntisymmetric}
use Rattle.road_model.proofs.TotalOrders.{way_cmp_total, way_cmp_exact}
use Rattle.road_model.proofs.Positions.{decided_way, decided_node, same_way, same_node_id}
use Rattle.road_model.proofs.FiniteWords.{fin_pass}
use Rattle.road_model.proofs.LocalLinks.{decided_by, coded_visible}

-- ---- keys

same_relation : (q r : RelationId) → q.0 ≡ r.0 → q ≡ r
same_relation q r e = λ i. record { 0 = e i }

decided_key : (a b : Key) → Decided (a ≡ b)
decided_key (NodeKey n) (NodeKey m) = decided_like (λ e. ap NodeKey e) (λ e. cc) (decided_node n m)
decided_key (NodeKey n) (WayKey w) = inr (λ e. cc)
decided_key (NodeKey n) (RelationKey r) = inr (λ e. cc)
decided_key (WayKey w) (NodeKey n) = inr (λ e. cc)
decided_key (WayKey w) (WayKey v) = decided_like (λ e. ap WayKey e) (λ e. cc) (decided_way w v)
decided_key (WayKey w) (RelationKey r) = inr (λ e. cc)
decided_key (RelationKey r) (NodeKey n) = inr (λ e. cc)
decided_key (RelationKey r) (WayKey w) = inr (λ e. cc)
decided_key (RelationKey r) (RelationKey q) =
    decided_like (λ e. ap RelationKey (same_relation r q e)) (λ e. cc) (decided_int r.0 q.0)

one_of : {A B : Type 0} → Decided A → Decided B → Decided (A ⊎ B)
one_of (inl a) d = inl (inl a)
one_of (inr n) (inl b) = inl (inr b)
one_of (inr n) (inr m) = inr (λ h. elim h [ inl a ↦ n a | inr b ↦ m b ])

in_decided : {X : Type 0} → ((x y : X) → Decided (x ≡ y)) → (x : X) (xs : List X) → Decided (In x xs)
in_decided same x [] = inr (λ h. h)
in_decided same x (y ∷ xs) = one_of (same x y) (in_decided same x xs)

-- whether the list contains it
contained : {X : Type 0} → ((x y : X) → Decided (x ≡ y)) → (xs : List X) (x : X) → Decided (Contains xs x)
contained same xs x = decided_like (contains_from_in xs x) (in_from_contains xs x) (in_decided same x xs)

in_map : {X Y : Type 0} (f : X → Y) (x : X) (xs : List X) → In x xs → In (f x) (map f xs)
in_map f x [] i = absurd i
in_map f x (y ∷ xs) (inl e) = inl (ap f e)
in_map f x (y ∷ xs) (inr i) = inr (in_map f x xs i)

-- ---- the keys that have an entry

abbrev keys_in : List (Key × Entry) → List Key
keys_in es = map (λ e. e.0) es

found : (k j : Key) (x e : Entry) (o : Option Entry) (ks : List Key) (b : Bool) → (b ≡ true → k ≡ j)
    → cond b (Some x) o ≡ Some e → (o ≡ Some e → In k ks) → In k (j ∷ ks)
found k j x e o ks true same h go = inl (same refl)
found k j x e o ks false same h go = inr (go h)

find_in : (k : Key) (e : Entry) (es : List (Key × Entry)) → find key_cmp k es ≡ Some e → In k (keys_in es)
find_in k e [] h = cc
find_in (NodeKey n) e ((NodeKey m, x) ∷ es) h = found (NodeKey n) (NodeKey m) x e (find key_cmp (NodeKey n) es)
    (keys_in es) (int_eq n.0 m.0) (λ t. ap NodeKey (same_node_id n m ((Decides-int_eq n.0 m.0).0 t))) h
    (find_in (NodeKey n) e es)
find_in (NodeKey n) e ((WayKey w, x) ∷ es) h = inr (find_in (NodeKey n) e es h)
find_in (NodeKey n) e ((RelationKey r, x) ∷ es) h = inr (find_in (NodeKey n) e es h)
find_in (WayKey w) e ((NodeKey m, x) ∷ es) h = inr (find_in (WayKey w) e es h)
find_in (WayKey w) e ((WayKey v, x) ∷ es) h = found (WayKey w) (WayKey v) x e (find key_cmp (WayKey w) es)
    (keys_in es) (int_eq w.0 v.0) (λ t. ap WayKey (same_way w v ((Decides-int_eq w.0 v.0).0 t))) h
    (find_in (WayKey w) e es)
find_in (WayKey w) e ((RelationKey r, x) ∷ es) h = inr (find_in (WayKey w) e es h)
find_in (RelationKey r) e ((NodeKey m, x) ∷ es) h = inr (find_in (RelationKey r) e es h)
find_in (RelationKey r) e ((WayKey v, x) ∷ es) h = inr (find_in (RelationKey r) e es h)
find_in (RelationKey r) e ((RelationKey q, x) ∷ es) h = found (RelationKey r) (RelationKey q) x e
    (find key_cmp (RelationKey r) es) (keys_in es) (int_eq r.0 q.0)
    (λ t. ap RelationKey (same_relation r q ((Decides-int_eq r.0 q.0).0 t))) h (find_in (RelationKey r) e es)

has_entry : (b : Body) (o : Option Entry) → body_in o ≡ Some b → (e : Entry) × (o ≡ Some e)
has_entry b None h = cc
has_entry b (Some e) h = (e, refl)

visible_in : (M : Objects) (k : Key) (b : Body) → visible M k ≡ Some b → In k (keys_in (entries M))
unfolding visible
visible_in M k b h = let e = has_entry b (get M k) h in
    find_in k e.0 (entries M) (sym (get-entries M k) ∙ e.1)

way_body : (b : Way) (o : Option Body) → way_in o ≡ Some b → (c : Body) × (o ≡ Some c)
way_body b None h = cc
way_body b (Some c) h = (c, refl)

relation_body : (b : Relation) (o : Option Body) → relation_in o ≡ Some b → (c : Body) × (o ≡ Some c)
relation_body b None h = cc
relation_body b (Some c) h = (c, refl)

way_known : (M : Objects) (w : WayId) (b : Way) → way_of M w ≡ Some b → In (WayKey w) (keys_in (entries M))
unfolding way_of
way_known M w b h = let c = way_body b (visible M (WayKey w)) h in visible_in M (WayKey w) c.0 c.1

relation_known : (M : Objects) (r : RelationId) (b : Relation) → relation_of M r ≡ Some b
    → In (RelationKey r) (keys_in (entries M))
unfolding relation_of
relation_known M r b h = let c = relation_body b (visible M (RelationKey r)) h in visible_in M (RelationKey r) c.0 c.1

-- ---- links

module _ (M : Objects) where
  refers_if : (w : WayId) (n : NodeId) (o : Option Way) → way_of M w ≡ o → Decided (RefersTo M w n)
  refers_if w n None e = inr (λ h. let f = h.is in cc (e, f))
  refers_if w n (Some b) e = decided_like
      (λ h. record { body = b; is = e; highway = h.0; member = h.1 })
      (λ h. let f = h.is in let same : h.body ≡ b = cc (e, f) in (
        subst (λ (x : Way). IsTrue (has_highway x.tags)) same h.highway,
        subst (λ (x : Way). Contains x.refs n) same h.member,
      ))
      (decided_both (decided_true (has_highway b.tags)) (contained decided_node b.refs n))

  member_if : (r : RelationId) (k : Key) (o : Option Relation) → relation_of M r ≡ o → Decided (HasMember M r k)
  member_if r k None e = inr (λ h. let f = h.is in cc (e, f))
  member_if r k (Some b) e = decided_like
      (λ h. record { body = b; is = e; restriction = h.0; member = h.1 })
      (λ h. let f = h.is in let same : h.body ≡ b = cc (e, f) in (
        subst (λ (x : Relation). IsTrue (is_restriction x.tags)) same h.restriction,
        subst (λ (x : Relation). Contains (map (λ m. m.item) x.members) k) same h.member,
      ))
      (decided_both (decided_true (is_restriction b.tags)) (contained decided_key (map (λ m. m.item) b.members) k))

  refers_decided : (w : WayId) (n : NodeId) → Decided (RefersTo M w n)
  refers_decided w n = refers_if w n (way_of M w) refl

  member_decided : (r : RelationId) (k : Key) → Decided (HasMember M r k)
  member_decided r k = member_if r k (relation_of M r) refl

  link_decided : (a b : Key) → Decided (IsLink M a b)
  link_decided (NodeKey n) (NodeKey m) = inr (λ h. h)
  link_decided (NodeKey n) (WayKey w) = refers_decided w n
  link_decided (NodeKey n) (RelationKey r) = member_decided r (NodeKey n)
  link_decided (WayKey w) (NodeKey n) = refers_decided w n
  link_decided (WayKey w) (WayKey v) = inr (λ h. h)
  link_decided (WayKey w) (RelationKey r) = member_decided r (WayKey w)
  link_decided (RelationKey r) (NodeKey n) = member_decided r (NodeKey n)
  link_decided (RelationKey r) (WayKey w) = member_decided r (WayKey w)
  link_decided (RelationKey r) (RelationKey q) = inr (λ h. h)

  refs_of : Option Way → List Key
  refs_of None = []
  refs_of (Some b) = map (λ n. NodeKey n) b.refs

  members_of : Option Relation → List Key
  members_of None = []
  members_of (Some b) = map (λ m. m.item) b.members

  -- what a key names
  named : Key → List Key
  named (NodeKey n) = []
  named (WayKey w) = refs_of (way_of M w)
  named (RelationKey r) = members_of (relation_of M r)

  abbrev ends : Key → List Key
  ends a = named a ++ keys_in (entries M)

  known : (a b : Key) → In b (keys_in (entries M)) → In b (ends a)
  known a b i = in_right (named a) (keys_in (entries M)) b i

  way_end : (a : Key) (w : WayId) (n : NodeId) → RefersTo M w n → In (WayKey w) (ends a)
  way_end a w n h = known a (WayKey w) (way_known M w h.body h.is)

  relation_end : (a : Key) (r : RelationId) (k : Key) → HasMember M r k → In (RelationKey r) (ends a)
  relation_end a r k h = known a (RelationKey r) (relation_known M r h.body h.is)

  node_end : (w : WayId) (n : NodeId) → RefersTo M w n → In (NodeKey n) (ends (WayKey w))
  unfolding named refs_of
  node_end w n h = in_left (named (WayKey w)) (keys_in (entries M)) (NodeKey n)
      (subst (λ (o : Option Way). In (NodeKey n) (refs_of o)) (sym h.is)
      (in_map (λ x. NodeKey x) n h.body.refs (in_from_contains h.body.refs n h.member)))

  member_end : (r : RelationId) (k : Key) → HasMember M r k → In k (ends (RelationKey r))
  unfolding named members_of
  member_end r k h = in_left (named (RelationKey r)) (keys_in (entries M)) k
      (subst (λ (o : Option Relation). In k (members_of o)) (sym h.is)
      (in_from_contains (map (λ m. m.item) h.body.members) k h.member))

  link_in : (a b : Key) → IsLink M a b → In b (ends a)
  link_in (NodeKey n) (NodeKey m) h = absurd h
  link_in (NodeKey n) (WayKey w) h = way_end (NodeKey n) w n h
  link_in (NodeKey n) (RelationKey r) h = relation_end (NodeKey n) r (NodeKey n) h
  link_in (WayKey w) (NodeKey n) h = node_end w n h
  link_in (WayKey w) (WayKey v) h = absurd h
  link_in (WayKey w) (RelationKey r) h = relation_end (WayKey w) r (WayKey w) h
  link_in (RelationKey r) (NodeKey n) h = member_end r (NodeKey n) h
  link_in (RelationKey r) (WayKey w) h = member_end r (WayKey w) h
  link_in (RelationKey r) (RelationKey q) h = absurd h

  fin_linked : (a : Key) → Finite (λ b. IsLink M a b)
  fin_linked a = fin_by (fin_pass (λ b. IsLink M a b) (link_decided a) (fin_list (ends a))) (λ b h. h.0)
      (λ b h. (h, link_in a b h))

  fin_within : (n : ℕ) (a : Key) → Finite (λ b. IsWithin M n a b)
  fin_within zero a = fin_by (fin_one a) (λ b e. sym e) (λ b e. sym e)
  fin_within (suc n) a = fin_or (fin_within n a) (fin_bind (fin_within n a) (λ c. fin_linked c))

-- ---- the ways near what changes

same_key_way : (v w : WayId) → WayKey v ≡ WayKey w → v ≡ w
same_key_way v w e = cc

fin_way : (k : Key) → Finite (λ w. k ≡ WayKey w)
fin_way (NodeKey n) = fin_none (λ w e. cc)
fin_way (WayKey v) = fin_by (fin_one v) (λ w e. ap WayKey (sym e)) (λ w e. sym (same_key_way v w e))
fin_way (RelationKey r) = fin_none (λ w e. cc)

fin_near : (M : Objects) (k : Key) → Finite (λ w. IsNear M k w)
fin_near M k = fin_by (fin_bind (fin_within M link_radius k) fin_way)
    (λ w h. subst (IsWithin M link_radius k) h.2 h.1) (λ w h. (WayKey w, h, refl))

module _ (M N : Objects) where
  changed_if : (k : Key) → Differs M N k → (o p : Option Body) → visible M k ≡ o → visible N k ≡ p
      → In k (keys_in (entries M) ++ keys_in (entries N))
  changed_if k d (Some b) p e f = in_left (keys_in (entries M)) (keys_in (entries N)) k (visible_in M k b e)
  changed_if k d None (Some b) e f = in_right (keys_in (entries M)) (keys_in (entries N)) k (visible_in N k b f)
  changed_if k d None None e f = absurd (d (e ∙ sym f))

  fin_changed : Finite (λ k. Differs M N k)
  fin_changed = fin_by (fin_pass (λ k. Differs M N k)
      (λ k. decided_not (decided_by coded_visible (visible M k) (visible N k)))
      (fin_list (keys_in (entries M) ++ keys_in (entries N)))) (λ k h. h.0)
      (λ k d. (d, changed_if k d (visible M k) (visible N k) refl refl))

  pub changed_keys : (keys : List Key) × AreChanged M N keys
  changed_keys = listed (λ k. k) key_cmp key_cmp_total key_cmp-IsAntisymmetric fin_changed (λ x y i j e. e)

  fin_touched : Finite (λ w. IsTouched M N w)
  fin_touched = fin_bind fin_changed (λ k. fin_or (fin_near M k) (fin_near N k))

  pub touched_ways : (ways : List WayId) × AreTouched M N ways
  touched_ways = listed (λ w. w) way_cmp way_cmp_total way_cmp_exact fin_touched (λ x y i j e. e)
