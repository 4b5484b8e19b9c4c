-- What the look-ups of a key give is what is linked to it.
use Rattle.std.proofs.Common.{◌≡◌, ◌↔◌, ◌⊎◌, inl, inr, List, map, refl}
use Rattle.std.proofs.Common.{sym, subst, Contains}
use Rattle.road_base.specs.declared.ids.NodeId.{NodeId}
use Rattle.road_base.specs.declared.ids.WayId.{WayId}
use Rattle.road_base.specs.declared.ids.RelationId.{RelationId}
use Rattle.road_base.specs.declared.ids.Key.{Key}
use Rattle.road_base.specs.declared.ids.Key.TheVariants.{Node as NodeKey, Way as WayKey, Relation as RelationKey}
use Rattle.road_base.specs.declared.objects.Member.{Member}
use Rattle.road_base.specs.Objects.{Objects}
use Rattle.ordered_lists.proofs.ListMembers.{contains_map, contains_from_map}
use Rattle.ordered_lists.specs.Orders.{Lists}
use Rattle.road_model.specs.Orders.{way_cmp, relation_cmp}
use Rattle.road_model.specs.Links.{RefersTo, HasMember, IsLink}
use Rattle.cell_check.specs.declared.search.LinkSearch.{LinkSearch}
use Rattle.cell_check.specs.Searches.{Finds, FromStart, GivenBy, IsNodeOrWay}
use Rattle.cell_check.proofs.FoundKeys.{finds_as, finds_both}

-- what a list gives as keys of its elements
abbrev Keyed : {A : Type 0} → (A → Key) → List A → Key → Type 0
Keyed key xs k = GivenBy (λ x k. k ≡ key x) xs k

to_each : {A : Type 0} (key : A → Key) (xs : List A) (P : Key → Type 0) → ((x : A) → Contains xs x → P (key x))
    → (k : Key) → Keyed key xs k → P k
to_each key xs P each k (x, has, is) = subst P (sym is) (each x has)

-- two lists together give what is linked
both_linked : (start : Key) (s t u : LinkSearch) (A B More : Key → Type 0) → Finds s t (FromStart start A)
    → Finds t u (FromStart start B) → ((k : Key) → A k → More k) → ((k : Key) → B k → More k)
    → ((k : Key) → More k → A k ⊎ B k) → Finds s u (FromStart start More)
both_linked start s t u A B More first second this that from =
    finds_both s t u (FromStart start A) (FromStart start B) (FromStart start More) first second
    (λ k v i. (this k i.0, i.1)) (λ k v i. (that k i.0, i.1))
    (λ k v i. elim (from k i.0) [ inl a ↦ inl (a, i.1) | inr b ↦ inr (b, i.1) ])

-- ---- of a node

module _ (M : Objects) (n : NodeId) (ways : List WayId) (are : Lists (λ w. w) way_cmp (λ w. RefersTo M w n) ways)
    (rules : List RelationId) (also : Lists (λ r. r) relation_cmp (λ r. HasMember M r (NodeKey n)) rules) where
  node_cases : (k : Key) → IsLink M (NodeKey n) k → Keyed WayKey ways k ⊎ Keyed RelationKey rules k
  node_cases (NodeKey m) l = absurd l
  node_cases (WayKey w) l = inl (w, are.complete w l, refl)
  node_cases (RelationKey r) l = inr (r, also.complete r l, refl)

  pub node_linked : (start : Key) (s t u : LinkSearch) → Finds s t (FromStart start (Keyed WayKey ways))
      → Finds t u (FromStart start (Keyed RelationKey rules)) → Finds s u (FromStart start (IsLink M (NodeKey n)))
  node_linked start s t u first second =
      both_linked start s t u (Keyed WayKey ways) (Keyed RelationKey rules) (IsLink M (NodeKey n)) first second
      (to_each WayKey ways (IsLink M (NodeKey n)) are.sound)
      (to_each RelationKey rules (IsLink M (NodeKey n)) also.sound) node_cases

-- ---- of a way

module _ (M : Objects) (w : WayId) (nodes : List NodeId) (rules : List RelationId)
    (are : (n : NodeId) → Contains nodes n ↔ RefersTo M w n)
    (also : Lists (λ r. r) relation_cmp (λ r. HasMember M r (WayKey w)) rules) where
  way_cases : (k : Key) → IsLink M (WayKey w) k → Keyed NodeKey nodes k ⊎ Keyed RelationKey rules k
  way_cases (NodeKey n) l = inl (n, (are n).1 l, refl)
  way_cases (WayKey v) l = absurd l
  way_cases (RelationKey r) l = inr (r, also.complete r l, refl)

  pub way_linked : (start : Key) (s t u : LinkSearch) → Finds s t (FromStart start (Keyed NodeKey nodes))
      → Finds t u (FromStart start (Keyed RelationKey rules)) → Finds s u (FromStart start (IsLink M (WayKey w)))
  way_linked start s t u first second =
      both_linked start s t u (Keyed NodeKey nodes) (Keyed RelationKey rules) (IsLink M (WayKey w)) first second
      (to_each NodeKey nodes (IsLink M (WayKey w)) (λ n has. (are n).0 has))
      (to_each RelationKey rules (IsLink M (WayKey w)) also.sound) way_cases

-- ---- of a relation

abbrev MemberThat : List Member → Key → Type 0
MemberThat members k = GivenBy (λ m k. (k ≡ m.item) × IsNodeOrWay k) members k

module _ (M : Objects) (r : RelationId) (members : List Member)
    (are : (k : Key) → Contains (map (λ m. m.item) members) k ↔ HasMember M r k) where
  member_has : (k : Key) → MemberThat members k → HasMember M r k
  member_has k (m, has, e) = (are k).0
      (subst (Contains (map (λ m. m.item) members)) (sym e.0) (contains_map (λ m. m.item) members m has))

  member_that : (k : Key) → HasMember M r k → IsNodeOrWay k → MemberThat members k
  member_that k h is =
      let m = contains_from_map (λ m. m.item) members k ((are k).1 h) in (m.0, m.1, (m.2, is))

  rule_to : (k : Key) → MemberThat members k → IsLink M (RelationKey r) k
  rule_to (NodeKey n) g = member_has (NodeKey n) g
  rule_to (WayKey w) g = member_has (WayKey w) g
  rule_to (RelationKey q) g = g.2.1

  rule_from : (k : Key) → IsLink M (RelationKey r) k → MemberThat members k
  rule_from (NodeKey n) l = member_that (NodeKey n) l tt
  rule_from (WayKey w) l = member_that (WayKey w) l tt
  rule_from (RelationKey q) l = absurd l

  pub rule_linked : (start : Key) (s t : LinkSearch) → Finds s t (FromStart start (MemberThat members))
      → Finds s t (FromStart start (IsLink M (RelationKey r)))
  rule_linked start s t h =
      finds_as s t (FromStart start (MemberThat members)) (FromStart start (IsLink M (RelationKey r))) h
      (λ k v g. (rule_to k g.0, g.1)) (λ k v l. (rule_from k l.0, l.1))
