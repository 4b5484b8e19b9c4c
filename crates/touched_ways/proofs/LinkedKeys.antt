-- What the look-ups of a key give is what is linked to it.
use Rattle.std.proofs.Common.{◌≡◌, ◌↔◌, ◌⊎◌, inl, inr, List, map, refl}
use Rattle.std.proofs.Common.{sym, subst, Contains}
use Rattle.road_base.specs.declared.ids.NodeId.{NodeId}
use Rattle.road_base.specs.declared.ids.WayId.{WayId}
use Rattle.road_base.specs.declared.ids.RelationId.{RelationId}
use Rattle.road_base.specs.declared.ids.Key.{Key}
use Rattle.road_base.specs.declared.ids.Key.TheVariants.{Node as NodeKey, Way as WayKey, Relation as RelationKey}
use Rattle.road_base.specs.declared.objects.Member.{Member}
use Rattle.road_base.specs.Objects.{Objects}
use Rattle.ordered_lists.proofs.ListMembers.{contains_map, contains_from_map}
use Rattle.ordered_lists.specs.Orders.{Lists}
use Rattle.road_model.specs.Orders.{way_cmp, relation_cmp}
use Rattle.road_model.specs.Links.{RefersTo, HasMember, IsLink}
use Rattle.touched_ways.specs.declared.found.Reached.{Reached}
use Rattle.touched_ways.specs.Searches.{Finds, GivenBy, IsNodeOrWay, IsWay, IsWayLink}
use Rattle.touched_ways.proofs.FoundKeys.{finds_as, finds_both}

-- what a list gives as keys of its elements
abbrev Keyed : {A : Type 0} → (A → Key) → List A → Key → Type 0
Keyed key xs k = GivenBy (λ x k. k ≡ key x) xs k

to_each : {A : Type 0} (key : A → Key) (xs : List A) (P : Key → Type 0) → ((x : A) → Contains xs x → P (key x))
    → (k : Key) → Keyed key xs k → P k
to_each key xs P each k (x, has, is) = subst P (sym is) (each x has)

-- ---- of a node

module _ (M : Objects) (n : NodeId) (ways : List WayId) (are : Lists (λ w. w) way_cmp (λ w. RefersTo M w n) ways)
  where
    module _ (rules : List RelationId)
        (also : Lists (λ r. r) relation_cmp (λ r. HasMember M r (NodeKey n)) rules) where
      node_cases : (k : Key) → IsLink M (NodeKey n) k → Keyed WayKey ways k ⊎ Keyed RelationKey rules k
      node_cases (NodeKey m) l = absurd l
      node_cases (WayKey w) l = inl (w, are.complete w l, refl)
      node_cases (RelationKey r) l = inr (r, also.complete r l, refl)

      pub node_linked : (f g e : Reached) → Finds f g (Keyed WayKey ways) → Finds g e (Keyed RelationKey rules)
          → Finds f e (IsLink M (NodeKey n))
      node_linked f g e first second =
          finds_both f g e (Keyed WayKey ways) (Keyed RelationKey rules) (IsLink M (NodeKey n)) first second
          (to_each WayKey ways (IsLink M (NodeKey n)) are.sound)
          (to_each RelationKey rules (IsLink M (NodeKey n)) also.sound) node_cases

    node_way : (k : Key) → IsWayLink M (NodeKey n) k → Keyed WayKey ways k
    node_way (NodeKey m) l = absurd l.0
    node_way (WayKey w) l = (w, are.complete w l.0, refl)
    node_way (RelationKey r) l = absurd l.1

    pub node_way_linked : (f g : Reached) → Finds f g (Keyed WayKey ways) → Finds f g (IsWayLink M (NodeKey n))
    node_way_linked f g h = finds_as f g (Keyed WayKey ways) (IsWayLink M (NodeKey n)) h
        (to_each WayKey ways (IsWayLink M (NodeKey n)) (λ w has. (are.sound w has, tt))) node_way

-- ---- of a way

module _ (M : Objects) (w : WayId) (nodes : List NodeId) (rules : List RelationId)
    (are : (n : NodeId) → Contains nodes n ↔ RefersTo M w n)
    (also : Lists (λ r. r) relation_cmp (λ r. HasMember M r (WayKey w)) rules) where
  way_cases : (k : Key) → IsLink M (WayKey w) k → Keyed NodeKey nodes k ⊎ Keyed RelationKey rules k
  way_cases (NodeKey n) l = inl (n, (are n).1 l, refl)
  way_cases (WayKey v) l = absurd l
  way_cases (RelationKey r) l = inr (r, also.complete r l, refl)

  pub way_linked : (f g e : Reached) → Finds f g (Keyed NodeKey nodes) → Finds g e (Keyed RelationKey rules)
      → Finds f e (IsLink M (WayKey w))
  way_linked f g e first second =
      finds_both f g e (Keyed NodeKey nodes) (Keyed RelationKey rules) (IsLink M (WayKey w)) first second
      (to_each NodeKey nodes (IsLink M (WayKey w)) (λ n has. (are n).0 has))
      (to_each RelationKey rules (IsLink M (WayKey w)) also.sound) way_cases

-- ---- of a relation

abbrev MemberThat : (Key → Type 0) → List Member → Key → Type 0
MemberThat Is members k = GivenBy (λ m k. (k ≡ m.item) × Is k) members k

module _ (M : Objects) (r : RelationId) (members : List Member)
    (are : (k : Key) → Contains (map (λ m. m.item) members) k ↔ HasMember M r k) where
  member_has : (Is : Key → Type 0) (k : Key) → MemberThat Is members k → HasMember M r k
  member_has Is k (m, has, e) = (are k).0
      (subst (Contains (map (λ m. m.item) members)) (sym e.0) (contains_map (λ m. m.item) members m has))

  member_that : (Is : Key → Type 0) (k : Key) → HasMember M r k → Is k → MemberThat Is members k
  member_that Is k h is =
      let m = contains_from_map (λ m. m.item) members k ((are k).1 h) in (m.0, m.1, (m.2, is))

  rule_to : (k : Key) → MemberThat IsNodeOrWay members k → IsLink M (RelationKey r) k
  rule_to (NodeKey n) g = member_has IsNodeOrWay (NodeKey n) g
  rule_to (WayKey w) g = member_has IsNodeOrWay (WayKey w) g
  rule_to (RelationKey q) g = g.2.1

  rule_from : (k : Key) → IsLink M (RelationKey r) k → MemberThat IsNodeOrWay members k
  rule_from (NodeKey n) l = member_that IsNodeOrWay (NodeKey n) l tt
  rule_from (WayKey w) l = member_that IsNodeOrWay (WayKey w) l tt
  rule_from (RelationKey q) l = absurd l

  pub rule_linked : (f g : Reached) → Finds f g (MemberThat IsNodeOrWay members) → Finds f g (IsLink M (RelationKey r))
  rule_linked f g h =
      finds_as f g (MemberThat IsNodeOrWay members) (IsLink M (RelationKey r)) h rule_to rule_from

  rule_to_way : (k : Key) → MemberThat IsWay members k → IsWayLink M (RelationKey r) k
  rule_to_way (NodeKey n) g = absurd g.2.1
  rule_to_way (WayKey w) g = (member_has IsWay (WayKey w) g, tt)
  rule_to_way (RelationKey q) g = absurd g.2.1

  rule_from_way : (k : Key) → IsWayLink M (RelationKey r) k → MemberThat IsWay members k
  rule_from_way (NodeKey n) l = absurd l.1
  rule_from_way (WayKey w) l = member_that IsWay (WayKey w) l.0 tt
  rule_from_way (RelationKey q) l = absurd l.1

  pub rule_way_linked : (f g : Reached) → Finds f g (MemberThat IsWay members)
      → Finds f g (IsWayLink M (RelationKey r))
  rule_way_linked f g h =
      finds_as f g (MemberThat IsWay members) (IsWayLink M (RelationKey r)) h rule_to_way rule_from_way
