-- What is within some links of a changed key, before a change or behind it, is found along the links behind it alone,
-- but for those of the changed keys.
use Rattle.std.proofs.Common.{◌≡◌, ℕ, suc, ◌⊎◌, inl, inr, List, sym, subst, Contains}
use Rattle.std.proofs.Common.{◌∙◌}
use Rattle.road_base.specs.declared.ids.NodeId.{NodeId}
use Rattle.road_base.specs.declared.ids.WayId.{WayId}
use Rattle.road_base.specs.declared.ids.RelationId.{RelationId}
use Rattle.road_base.specs.declared.ids.Key.{Key}
use Rattle.road_base.specs.declared.ids.Key.TheVariants.{Node as NodeKey, Way as WayKey, Relation as RelationKey}
use Rattle.road_base.specs.Objects.{Objects, key_cmp, visible}
use Rattle.ordered_lists.specs.Orders.{Lists}
use Rattle.road_model.specs.Orders.{way_cmp}
use Rattle.road_model.specs.Links.{RefersTo, HasMember, IsLink, IsWithin, Differs, AreChanged, IsTouched}
use Rattle.road_model.specs.Links.{AreTouched, link_radius}
use Rattle.ordered_lists.proofs.JoinedLists.{lists_same}
use Rattle.road_model.proofs.LocalLinks.{way_same, relation_same, within_itself, decided_by, coded_visible}
use Rattle.touched_ways.specs.declared.search.LinkSearch.{LinkSearch}
use Rattle.touched_ways.specs.Altering.{IsNearChange}
use Rattle.touched_ways.specs.Searches.{IsFrontier, IsNext, IsFurtherInOne, IsBegun}
use Rattle.touched_ways.proofs.LinkRounds.{IsReach, IsRound}

-- ---- a link that is in one object map alone has a changed key at an end

first : {A B C : Type 0} → A ⊎ B → A ⊎ (B ⊎ C)
first (inl a) = inl a
first (inr b) = inr (inl b)

second : {A B C : Type 0} → A ⊎ C → A ⊎ (B ⊎ C)
second (inl a) = inl a
second (inr c) = inr (inr c)

module _ (M N : Objects) (keys : List Key) (changed : AreChanged M N keys) where
  same_or_changed : (k : Key) → (visible M k ≡ visible N k) ⊎ Contains keys k
  same_or_changed k = elim (decided_by coded_visible (visible M k) (visible N k))
      [ inl e ↦ inl e | inr n ↦ inr (changed.complete k n) ]

  refers_stays : (w : WayId) (n : NodeId) → RefersTo M w n → RefersTo N w n ⊎ Contains keys (WayKey w)
  refers_stays w n h = elim (same_or_changed (WayKey w)) [
    | inl e ↦ inl (record {
      body = h.body;
      is = sym (way_same M N w e) ∙ h.is;
      highway = h.highway;
      member = h.member;
    })
    | inr is ↦ inr is
  ]

  member_stays : (r : RelationId) (k : Key) → HasMember M r k → HasMember N r k ⊎ Contains keys (RelationKey r)
  member_stays r k h = elim (same_or_changed (RelationKey r)) [
    | inl e ↦ inl (record {
      body = h.body;
      is = sym (relation_same M N r e) ∙ h.is;
      restriction = h.restriction;
      member = h.member;
    })
    | inr is ↦ inr is
  ]

  link_stays : (a b : Key) → IsLink M a b → IsLink N a b ⊎ (Contains keys a ⊎ Contains keys b)
  link_stays (NodeKey n) (NodeKey m) l = absurd l
  link_stays (NodeKey n) (WayKey w) l = second (refers_stays w n l)
  link_stays (NodeKey n) (RelationKey r) l = second (member_stays r (NodeKey n) l)
  link_stays (WayKey w) (NodeKey n) l = first (refers_stays w n l)
  link_stays (WayKey w) (WayKey v) l = absurd l
  link_stays (WayKey w) (RelationKey r) l = second (member_stays r (WayKey w) l)
  link_stays (RelationKey r) (NodeKey n) l = first (member_stays r (NodeKey n) l)
  link_stays (RelationKey r) (WayKey w) l = first (member_stays r (WayKey w) l)
  link_stays (RelationKey r) (RelationKey q) l = absurd l

-- ---- what is within some links before a change or behind it

-- the key is within n links of one of the keys, in M or in N
abbrev pub IsWithinInOne : Objects → Objects → List Key → ℕ → Key → Type 0
IsWithinInOne M N keys n k = (c : Key) × Contains keys c × (IsWithin M n c k ⊎ IsWithin N n c k)

-- what is linked to a key is within one link of it, or more
linked : (M : Objects) (n : ℕ) (a b : Key) → IsLink M a b → IsWithin M (suc n) a b
linked M n a b l = inr (a, within_itself M n a, l)

module _ (M N : Objects) (keys : List Key) (changed : AreChanged M N keys) where
  pub turned : AreChanged N M keys
  turned = lists_same (λ k. k) key_cmp (Differs M N) (Differs N M) keys changed
      (λ k d e. d (sym e)) (λ k d e. d (sym e))

  -- one link of N further
  pub one_further : (n : ℕ) (a b : Key) → IsWithinInOne M N keys n a → IsLink N a b → IsWithinInOne M N keys (suc n) b
  one_further n a b (c, has, inr there) l = (c, has, inr (inr (a, there, l)))
  one_further n a b (c, has, inl here) l = elim (link_stays N M keys turned a b l) [
    | inl same ↦ (c, has, inl (inr (a, here, same)))
    | inr (inl start) ↦ (a, start, inr (linked N n a b l))
    | inr (inr end) ↦ (b, end, inr (within_itself N (suc n) b))
  ]

  pub one_more : (n : ℕ) (a : Key) → IsWithinInOne M N keys n a → IsWithinInOne M N keys (suc n) a
  one_more n a (c, has, inl here) = (c, has, inl (inl here))
  one_more n a (c, has, inr there) = (c, has, inr (inl there))

  -- what is two links or more away is nearer, or one link of N behind what is nearer
  one_back : (n : ℕ) (b : Key) → IsWithinInOne M N keys (suc (suc n)) b → IsWithinInOne M N keys (suc n) b
      ⊎ ((a : Key) × IsWithinInOne M N keys (suc n) a × IsLink N a b)
  one_back n b (c, has, inl (inl here)) = inl (c, has, inl here)
  one_back n b (c, has, inr (inl there)) = inl (c, has, inr there)
  one_back n b (c, has, inr (inr (a, there, l))) = inr (a, (c, has, inr there), l)
  one_back n b (c, has, inl (inr (a, here, l))) = elim (link_stays M N keys changed a b l) [
    | inl same ↦ inr (a, (c, has, inl here), same)
    | inr (inl start) ↦ inl (a, start, inl (linked M n a b l))
    | inr (inr end) ↦ inl (b, end, inl (within_itself M (suc n) b))
  ]

  -- so from one link on the links of N are enough
  pub reach_behind : IsReach N (λ n. IsWithinInOne M N keys (suc n))
  reach_behind = record {
    next = λ n. one_further (suc n);
    still = λ n. one_more (suc n);
    cases = one_back;
  }

  -- and the first round follows those of the changed keys in both
  module _ (s t : LinkSearch) (begun : IsBegun keys s) (h : IsNext s t (IsFurtherInOne M N s)) where
    from_key : (k : Key) → Contains keys k → IsWithinInOne M N keys 1 k
    from_key k has = (k, has, inr (within_itself N 1 k))

    further : (b : Key) → IsFurtherInOne M N s b → IsWithinInOne M N keys 1 b
    further b (inl (a, frontier, l)) = (a, (begun.frontier a).0 frontier, inl (linked M 0 a b l))
    further b (inr (a, frontier, l)) = (a, (begun.frontier a).0 frontier, inr (linked N 0 a b l))

    -- a changed key is on the frontier
    frontier_at : (c a : Key) → Contains keys c → c ≡ a → IsFrontier s a
    frontier_at c a has e = (begun.frontier a).1 (subst (Contains keys) e has)

    came : (b : Key) → IsWithinInOne M N keys 1 b → Contains keys b ⊎ IsFurtherInOne M N s b
    came b (c, has, inl (inl e)) = inl (subst (Contains keys) e has)
    came b (c, has, inr (inl e)) = inl (subst (Contains keys) e has)
    came b (c, has, inl (inr (a, e, l))) = inr (inl (a, frontier_at c a has e, l))
    came b (c, has, inr (inr (a, e, l))) = inr (inr (a, frontier_at c a has e, l))

    arrived : (b : Key) → IsWithinInOne M N keys 1 b → Contains keys b ⊎ IsFrontier t b
    arrived b i = elim (came b i) [
      | inl key ↦ inl key
      | inr new ↦ elim (h.complete b new) [ inl frontier ↦ inr frontier | inr seen ↦ inl (begun.seen b seen) ]
    ]

    pub first_round : IsRound N (IsWithinInOne M N keys 1) t
    first_round = record {
      frontier = λ k i. further k (h.sound k i);
      seen = λ k i. elim (h.seen k i) [
        | inl earlier ↦ from_key k (begun.seen k earlier)
        | inr frontier ↦ further k (h.sound k frontier)
      ];
      ways = λ w i. h.ways w (elim (arrived (WayKey w) i) [
        | inl key ↦ inl (begun.ways w key)
        | inr frontier ↦ inr frontier
      ]);
      followed = λ a b i l. elim (arrived a i) [
        | inl key ↦ inl (a, key, inr (linked N 0 a b l))
        | inr frontier ↦ inr frontier
      ];
    }

  -- ---- the ways that are found

  pub near_ways : (ways : List WayId) → Lists (λ w. w) way_cmp (λ w. IsWithinInOne M N keys 2 (WayKey w)) ways
      → Lists (λ w. w) way_cmp (IsNearChange M N) ways
  near_ways ways lists = lists_same (λ w. w) way_cmp (λ w. IsWithinInOne M N keys 2 (WayKey w)) (IsNearChange M N) ways
      lists
      (λ w h. (h.0, changed.sound h.0 h.1, h.2)) (λ w h. (h.0, changed.complete h.0 h.1, h.2))

  pub all_ways : (ways : List WayId) → Lists (λ w. w) way_cmp (λ w. IsWithinInOne M N keys link_radius (WayKey w)) ways
      → AreTouched M N ways
  all_ways ways lists = lists_same (λ w. w) way_cmp (λ w. IsWithinInOne M N keys link_radius (WayKey w))
      (IsTouched M N) ways lists
      (λ w h. (h.0, changed.sound h.0 h.1, h.2)) (λ w h. (h.0, changed.complete h.0 h.1, h.2))
