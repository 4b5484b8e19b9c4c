-- What is within some links of a key, and has the same visible body in two object maps.
use Rattle.std.proofs.Common.{◌≡◌, ℕ, zero, suc, ◌+◌, ◌-◌, ◌≤◌, ◌⊎◌, inl, inr, refl, sym, ap, ◌∙◌, subst, arith, Option}
use base.Stored.{Gv, gnil, gnum, gcons}
use Rattle.std.specs.Coded.{Coded, coded_option}
use Rattle.road_base.specs.declared.ids.NodeId.{NodeId}
use Rattle.road_base.specs.declared.ids.WayId.{WayId}
use Rattle.road_base.specs.declared.ids.RelationId.{RelationId}
use Rattle.road_base.specs.declared.ids.Key.{Key}
use Rattle.road_base.specs.declared.ids.Key.TheVariants.{Node as NodeKey, Way as WayKey, Relation as RelationKey}
use Rattle.road_base.specs.declared.objects.Body.{Body}
use Rattle.road_base.specs.contracts.objects.Body as body
use Rattle.road_base.specs.Objects.{Objects, visible, node_of, way_of, relation_of, node_in, way_in, relation_in}
use Rattle.road_model.specs.Links.{RefersTo, HasMember, IsLink, IsWithin, Differs, IsTouched, link_radius}
use Rattle.road_model.specs.Local.{IsSameWithin, forward_radius}
use Rattle.ordered_lists.proofs.Decided.{Decided, decided_both, decided_like}
use Rattle.road_model.proofs.Positions.{decided_number}

-- ---- whether two bodies are equal is decided, since their codes are trees of numbers

decided_code : (x y : Gv) → Decided (x ≡ y)
decided_code gnil gnil = inl refl
decided_code gnil (gnum n) = inr (λ e. cc)
decided_code gnil (gcons c d) = inr (λ e. cc)
decided_code (gnum m) gnil = inr (λ e. cc)
decided_code (gnum m) (gnum n) = decided_like (λ e. ap gnum e) (λ e. cc) (decided_number m n)
decided_code (gnum m) (gcons c d) = inr (λ e. cc)
decided_code (gcons a b) gnil = inr (λ e. cc)
decided_code (gcons a b) (gnum n) = inr (λ e. cc)
decided_code (gcons a b) (gcons c d) = decided_like (λ e i. gcons (e.0 i) (e.1 i)) (λ e. ((cc), (cc)))
    (decided_both (decided_code a c) (decided_code b d))

pub decided_by : {A : Type 0} → Coded A → (x y : A) → Decided (x ≡ y)
decided_by c x y = decided_like (c.inj x y) (λ e. ap c.code e) (decided_code (c.code x) (c.code y))

pub coded_visible : Coded (Option Body)
coded_visible = coded_option (body.the_row).coded

-- what doesn't differ is equal
same_visible : (M N : Objects) (k : Key) → (Differs M N k → ⊥) → visible M k ≡ visible N k
same_visible M N k same = elim (decided_by coded_visible (visible M k) (visible N k))
    [ inl e ↦ e | inr n ↦ absurd (same n) ]

-- ---- the objects of a key

module _ (M N : Objects) where
  pub node_same : (v : NodeId) → visible M (NodeKey v) ≡ visible N (NodeKey v) → node_of M v ≡ node_of N v
  unfolding node_of
  node_same v e = ap node_in e

  pub way_same : (w : WayId) → visible M (WayKey w) ≡ visible N (WayKey w) → way_of M w ≡ way_of N w
  unfolding way_of
  way_same w e = ap way_in e

  pub relation_same : (r : RelationId) → visible M (RelationKey r) ≡ visible N (RelationKey r)
      → relation_of M r ≡ relation_of N r
  unfolding relation_of
  relation_same r e = ap relation_in e

  refers_kept : (w : WayId) (v : NodeId) → way_of M w ≡ way_of N w → RefersTo M w v → RefersTo N w v
  refers_kept w v e h = record { body = h.body; is = sym e ∙ h.is; highway = h.highway; member = h.member }

  member_kept : (r : RelationId) (k : Key) → relation_of M r ≡ relation_of N r → HasMember M r k → HasMember N r k
  member_kept r k e h = record { body = h.body; is = sym e ∙ h.is; restriction = h.restriction; member = h.member }

  link_kept : (a b : Key) → visible M a ≡ visible N a → visible M b ≡ visible N b → IsLink M a b → IsLink N a b
  link_kept (NodeKey v) (NodeKey u) e f h = h
  link_kept (NodeKey v) (WayKey w) e f h = refers_kept w v (way_same w f) h
  link_kept (NodeKey v) (RelationKey r) e f h = member_kept r (NodeKey v) (relation_same r f) h
  link_kept (WayKey w) (NodeKey v) e f h = refers_kept w v (way_same w e) h
  link_kept (WayKey w) (WayKey u) e f h = h
  link_kept (WayKey w) (RelationKey r) e f h = member_kept r (WayKey w) (relation_same r f) h
  link_kept (RelationKey r) (NodeKey v) e f h = member_kept r (NodeKey v) (relation_same r e) h
  link_kept (RelationKey r) (WayKey w) e f h = member_kept r (WayKey w) (relation_same r e) h
  link_kept (RelationKey r) (RelationKey q) e f h = h

-- ---- what is within some links

module _ (M : Objects) where
  link_turned : (a b : Key) → IsLink M a b → IsLink M b a
  link_turned (NodeKey v) (NodeKey u) h = h
  link_turned (NodeKey v) (WayKey w) h = h
  link_turned (NodeKey v) (RelationKey r) h = h
  link_turned (WayKey w) (NodeKey v) h = h
  link_turned (WayKey w) (WayKey u) h = h
  link_turned (WayKey w) (RelationKey r) h = h
  link_turned (RelationKey r) (NodeKey v) h = h
  link_turned (RelationKey r) (WayKey w) h = h
  link_turned (RelationKey r) (RelationKey q) h = h

  within_behind : (n : ℕ) (a b c : Key) → IsLink M a b → IsWithin M n b c → IsWithin M (suc n) a c
  within_behind zero a b c l h = inr (a, refl, subst (IsLink M a) h l)
  within_behind (suc n) a b c l (inl h) = inl (within_behind n a b c l h)
  within_behind (suc n) a b c l (inr h) = inr (h.0, within_behind n a b h.0 l h.1, h.2)

  -- being within some links is symmetric
  pub within_turned : (n : ℕ) (a b : Key) → IsWithin M n a b → IsWithin M n b a
  within_turned zero a b h = sym h
  within_turned (suc n) a b (inl h) = inl (within_turned n a b h)
  within_turned (suc n) a b (inr h) = within_behind n b h.0 a (link_turned h.0 b h.2) (within_turned n a h.0 h.1)

  pub within_itself : (n : ℕ) (a : Key) → IsWithin M n a a
  within_itself zero a = refl
  within_itself (suc n) a = inl (within_itself n a)

  within_add : (m n : ℕ) (a b c : Key) → IsWithin M m a b → IsWithin M n b c → IsWithin M (n + m) a c
  within_add m zero a b c g h = let e : m ≡ 0 + m = omega arith in
      subst (λ k. IsWithin M k a c) e (subst (IsWithin M m a) h g)
  within_add m (suc n) a b c g (inl h) = let e : suc (n + m) ≡ suc n + m = omega arith in
      subst (λ k. IsWithin M k a c) e (inl (within_add m n a b c g h))
  within_add m (suc n) a b c g (inr h) = let e : suc (n + m) ≡ suc n + m = omega arith in
      subst (λ k. IsWithin M k a c) e (inr (h.0, within_add m n a b h.0 g h.1, h.2))

  within_more : (m n : ℕ) (a b : Key) → m ≤ n → IsWithin M m a b → IsWithin M n a b
  within_more m n a b fewer h = let e : n - m + m ≡ n = omega arith in
      subst (λ k. IsWithin M k a b) e (within_add m (n - m) a b b h (within_itself (n - m) b))

-- ---- where all that is near has the same visible body in both object maps

-- what is within n links of the key, in M or in N, has the same visible body in both
abbrev pub IsAlike : Objects → Objects → ℕ → Key → Type 0
IsAlike M N n a = (b : Key) → IsWithin M n a b ⊎ IsWithin N n a b → visible M b ≡ visible N b

pub alike_from : (M N : Objects) (n : ℕ) (w : WayId) → IsSameWithin n M N w → IsAlike M N n (WayKey w)
alike_from M N n w same b near = same_visible M N b (λ d. same (
  b,
  d,
  elim near
      [ inl h ↦ inl (within_turned M n (WayKey w) b h) | inr h ↦ inr (within_turned N n (WayKey w) b h) ],
))

pub alike_turned : (M N : Objects) (n : ℕ) (a : Key) → IsAlike M N n a → IsAlike N M n a
alike_turned M N n a al b h = sym (al b (elim h [ inl x ↦ inr x | inr y ↦ inl y ]))

alike_fewer : (M N : Objects) (n : ℕ) (a : Key) → IsAlike M N (suc n) a → IsAlike M N n a
alike_fewer M N n a al b h = al b (elim h [ inl x ↦ inl (inl x) | inr y ↦ inr (inl y) ])

-- there what is within some links in the one is so in the other
within_kept : (M N : Objects) (n : ℕ) (a b : Key) → IsAlike M N n a → IsWithin M n a b → IsWithin N n a b
within_kept M N zero a b al h = h
within_kept M N (suc n) a b al (inl h) = inl (within_kept M N n a b (alike_fewer M N n a al) h)
within_kept M N (suc n) a b al (inr h) = inr (
  h.0,
  within_kept M N n a h.0 (alike_fewer M N n a al) h.1,
  link_kept M N h.0 b (al h.0 (inl (inl h.1))) (al b (inl (inr h))) h.2,
)

pub alike_less : (M N : Objects) (m n : ℕ) (a : Key) → IsAlike M N (n + m) a → IsAlike M N m a
alike_less M N m n a al b h = al b (elim h [
  | inl x ↦ inl (within_add M m n a b b x (within_itself M n b))
  | inr y ↦ inr (within_add N m n a b b y (within_itself N n b))
])

-- what is near a key that is near
pub alike_near : (M N : Objects) (m n : ℕ) (a b : Key) → IsAlike M N (n + m) a → IsWithin M m a b → IsAlike M N n b
alike_near M N m n a b al h c k = al c (elim k [
  | inl x ↦ inl (within_add M m n a b c h x)
  | inr y ↦ inr (within_add N m n a b c (within_kept M N m a b (alike_less M N m n a al) h) y)
])

-- what is the same within some links is so within fewer
pub same_less : (M N : Objects) (m n : ℕ) (w : WayId) → m ≤ n → IsSameWithin n M N w → IsSameWithin m M N w
same_less M N m n w fewer same h = same (
  h.0,
  h.1,
  elim h.2 [
    | inl x ↦ inl (within_more M m n h.0 (WayKey w) fewer x)
    | inr y ↦ inr (within_more N m n h.0 (WayKey w) fewer y)
  ],
)

-- within the link radius of what a change doesn't touch all is the same
pub untouched_same : (M N : Objects) (w : WayId) → (IsTouched M N w → ⊥) → IsSameWithin link_radius M N w
untouched_same M N w untouched = untouched

-- so it is within the forward radius, which is less
pub same_forward : (M N : Objects) (w : WayId) → IsSameWithin link_radius M N w → IsSameWithin forward_radius M N w
same_forward M N w same = same_less M N forward_radius link_radius w (omega arith) same
