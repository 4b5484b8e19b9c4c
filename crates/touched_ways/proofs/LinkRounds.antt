-- What is reached round by round.
use Rattle.std.proofs.Common.{◌≡◌, ◌↔◌, ℕ, zero, suc, ◌+◌, ◌⊎◌, inl, inr, List, refl, sym, subst, arith}
use Rattle.std.proofs.Common.{Contains}
use Rattle.road_base.specs.declared.ids.NodeId.{NodeId}
use Rattle.road_base.specs.declared.ids.WayId.{WayId}
use Rattle.road_base.specs.declared.ids.RelationId.{RelationId}
use Rattle.road_base.specs.declared.ids.Key.{Key}
use Rattle.road_base.specs.declared.ids.Key.TheVariants.{Node as NodeKey, Way as WayKey, Relation as RelationKey}
use Rattle.road_base.specs.Objects.{Objects}
use Rattle.ordered_lists.specs.Orders.{Lists}
use Rattle.road_model.specs.Orders.{way_cmp}
use Rattle.road_model.specs.Links.{IsLink, IsWithin}
use Rattle.ordered_lists.proofs.JoinedLists.{lists_same}
use Rattle.touched_ways.specs.declared.found.Reached.{Reached}
use Rattle.touched_ways.specs.declared.search.LinkSearch.{LinkSearch}
use Rattle.touched_ways.specs.Searches.{IsFound, Finds, GivenBy, IsFrontier, IsSeen, IsNext, IsFurther, IsWayLink}
use Rattle.touched_ways.specs.Searches.{IsFurtherInOne, IsBegun, AreRounds}
use Rattle.touched_ways.proofs.FoundKeys.{finds_both}

-- ---- what is taken in, by kind

-- the numbers of one kind are taken in
pub record Taken {T : Type 0} (seen found frontier all : List T) : Type 0 where
  pub sound : (x : T) → Contains frontier x → Contains found x
  pub complete : (x : T) → Contains found x → Contains frontier x ⊎ Contains seen x
  pub adds : (x : T) → Contains all x ↔ (Contains seen x ⊎ Contains frontier x)

pub taken_next : (s t : LinkSearch) (f : Reached) → t.nodes.items ≡ f.nodes.items
    → Taken s.ways.all.items f.ways.list.items t.ways.frontier.items t.ways.all.items
    → Taken s.rules.all.items f.rules.items t.rules.frontier.items t.rules.all.items → IsNext s t (IsFound f)
taken_next s t f nodes taken rules =
    record { sound = only; complete = all; seen = now; ways = λ w h. (taken.adds w).1 h }
  where
    only : (k : Key) → IsFrontier t k → IsFound f k
    only (NodeKey x) h = subst (λ l. Contains l x) nodes h
    only (WayKey x) h = taken.sound x h
    only (RelationKey x) h = rules.sound x h

    all : (k : Key) → IsFound f k → IsFrontier t k ⊎ IsSeen s k
    all (NodeKey x) h = inl (subst (λ l. Contains l x) (sym nodes) h)
    all (WayKey x) h = taken.complete x h
    all (RelationKey x) h = rules.complete x h

    now : (k : Key) → IsSeen t k → IsSeen s k ⊎ IsFrontier t k
    now (NodeKey x) h = absurd h
    now (WayKey x) h = (taken.adds x).0 h
    now (RelationKey x) h = (rules.adds x).0 h

-- ---- what calls found, taken in

-- nothing had been found before
pub next_found : (s t : LinkSearch) (f g : Reached) (Is : Key → Type 0) → ((k : Key) → IsFound f k → ⊥) → Finds f g Is
    → IsNext s t (IsFound g) → IsNext s t Is
next_found s t f g Is none finds h = record {
  sound = λ k i. elim (finds.sound k (h.sound k i)) [ inl old ↦ absurd (none k old) | inr new ↦ new ];
  complete = λ k i. h.complete k (finds.complete k i);
  seen = h.seen;
  ways = h.ways;
}

-- a search that has taken in the keys, and nothing before
pub begun : (keys : List Key) (s t : LinkSearch) → ((k : Key) → IsSeen s k → ⊥) → IsNext s t (Contains keys)
    → IsBegun keys t
begun keys s t none h = record {
  frontier = λ k. (h.sound k, from k);
  seen = λ k i. elim (h.seen k i) [ inl old ↦ absurd (none k old) | inr new ↦ h.sound k new ];
  ways = λ w i. h.ways w (inr (from (WayKey w) i));
}
  where
    from : (k : Key) → Contains keys k → IsFrontier t k
    from k i = elim (h.complete k i) [ inl new ↦ new | inr old ↦ absurd (none k old) ]

-- ---- what was found is what is further

module _ (M : Objects) (s : LinkSearch) (ns : List NodeId) (rs : List RelationId) (nodes : ns ≡ s.nodes.items)
    (rules : rs ≡ s.rules.frontier.items) where
  pub all_further : (f0 f1 f2 f3 : Reached) (ws : List WayId) → ws ≡ s.ways.frontier.items
      → Finds f0 f1 (GivenBy (λ n. IsLink M (NodeKey n)) ns) → Finds f1 f2 (GivenBy (λ w. IsLink M (WayKey w)) ws)
      → Finds f2 f3 (GivenBy (λ r. IsLink M (RelationKey r)) rs) → Finds f0 f3 (IsFurther M s)
  all_further f0 f1 f2 f3 ws ways first second third =
      record { sound = sound; complete = λ k h. from h.0 k h.1 h.2; keeps = keeps }
    where
      sound : (k : Key) → IsFound f3 k → IsFound f0 k ⊎ IsFurther M s k
      sound k h = elim (third.sound k h) [
        | inl before ↦ elim (second.sound k before) [
          | inl earlier ↦ elim (first.sound k earlier) [
            | inl old ↦ inl old
            | inr g ↦ inr (NodeKey g.0, subst (λ l. Contains l g.0) nodes g.1, g.2)
          ]
          | inr g ↦ inr (WayKey g.0, subst (λ l. Contains l g.0) ways g.1, g.2)
        ]
        | inr g ↦ inr (RelationKey g.0, subst (λ l. Contains l g.0) rules g.1, g.2)
      ]

      from : (a k : Key) → IsFrontier s a → IsLink M a k → IsFound f3 k
      from (NodeKey x) k frontier link = third.keeps k
          (second.keeps k (first.complete k (x, subst (λ l. Contains l x) (sym nodes) frontier, link)))
      from (WayKey x) k frontier link =
          third.keeps k (second.complete k (x, subst (λ l. Contains l x) (sym ways) frontier, link))
      from (RelationKey x) k frontier link =
          third.complete k (x, subst (λ l. Contains l x) (sym rules) frontier, link)

      keeps : (k : Key) → IsFound f0 k → IsFound f3 k
      keeps k i = third.keeps k (second.keeps k (first.keeps k i))

  -- of ways alone
  pub last_ways : (f0 f1 f2 : Reached) → ((k : Key) → IsFound f0 k → ⊥)
      → Finds f0 f1 (GivenBy (λ n. IsWayLink M (NodeKey n)) ns)
      → Finds f1 f2 (GivenBy (λ r. IsWayLink M (RelationKey r)) rs) → (last ways : List WayId)
      → last ≡ f2.ways.list.items
      → Lists (λ w. w) way_cmp (λ w. Contains s.ways.all.items w ⊎ Contains last w) ways
      → Lists (λ w. w) way_cmp (λ w. IsSeen s (WayKey w) ⊎ IsFurther M s (WayKey w)) ways
  last_ways f0 f1 f2 none first second last ways e lists = lists_same (λ w. w) way_cmp
      (λ w. Contains s.ways.all.items w ⊎ Contains last w) (λ w. IsSeen s (WayKey w) ⊎ IsFurther M s (WayKey w)) ways
      lists
      (λ w h. elim h [ inl old ↦ inl old | inr new ↦ inr (sound w (subst (λ l. Contains l w) e new)) ])
      (λ w h. elim h [
        | inl old ↦ inl old
        | inr (a, frontier, link) ↦ inr (subst (λ l. Contains l w) (sym e) (from a w frontier link))
      ])
    where
      sound : (w : WayId) → IsFound f2 (WayKey w) → IsFurther M s (WayKey w)
      sound w h = elim (second.sound (WayKey w) h) [
        | inl before ↦ elim (first.sound (WayKey w) before) [
          | inl old ↦ absurd (none (WayKey w) old)
          | inr (x, has, l) ↦ (NodeKey x, subst (λ l. Contains l x) nodes has, l.0)
        ]
        | inr (x, has, l) ↦ (RelationKey x, subst (λ l. Contains l x) rules has, l.0)
      ]

      from : (a : Key) (w : WayId) → IsFrontier s a → IsLink M a (WayKey w) → IsFound f2 (WayKey w)
      from (NodeKey x) w frontier link = second.keeps (WayKey w)
          (first.complete (WayKey w) (x, subst (λ l. Contains l x) (sym nodes) frontier, (link, tt)))
      from (WayKey x) w frontier link = absurd link
      from (RelationKey x) w frontier link =
          second.complete (WayKey w) (x, subst (λ l. Contains l x) (sym rules) frontier, (link, tt))

-- in one of two object maps
pub further_in_one : (M N : Objects) (s : LinkSearch) (f g e : Reached) → Finds f g (IsFurther M s)
    → Finds g e (IsFurther N s) → Finds f e (IsFurtherInOne M N s)
further_in_one M N s f g e first second =
    finds_both f g e (IsFurther M s) (IsFurther N s) (IsFurtherInOne M N s) first second
    (λ k h. inl h) (λ k h. inr h) (λ k h. h)

-- ---- the rounds

-- the links lead from what is within some number to what is within one more, and to nothing else
pub record IsReach (M : Objects) (Within : ℕ → Key → Type 0) : Type 0 where
  pub next : (n : ℕ) (a b : Key) → Within n a → IsLink M a b → Within (suc n) b
  pub still : (n : ℕ) (a : Key) → Within n a → Within (suc n) a
  pub cases : (n : ℕ) (b : Key) → Within (suc n) b → Within n b ⊎ ((a : Key) × Within n a × IsLink M a b)

-- the ways that are near were seen, and all that is further is linked to the frontier
pub record IsRound (M : Objects) (Near : Key → Type 0) (s : LinkSearch) : Type 0 where
  pub frontier : (k : Key) → IsFrontier s k → Near k
  pub seen : (k : Key) → IsSeen s k → Near k
  pub ways : (w : WayId) → Near (WayKey w) → IsSeen s (WayKey w)
  pub followed : (a b : Key) → Near a → IsLink M a b → Near b ⊎ IsFrontier s a

module _ (M : Objects) (Within : ℕ → Key → Type 0) (reach : IsReach M Within) where
  module _ (n : ℕ) (s : LinkSearch) (round : IsRound M (Within n) s) where
    -- what is further
    further : (b : Key) → IsFurther M s b → Within (suc n) b
    further b (a, frontier, link) = reach.next n a b (round.frontier a frontier) link

    -- what is one link further had been reached, or is linked to the frontier
    came : (b : Key) → Within (suc n) b → Within n b ⊎ IsFurther M s b
    came b i = elim (reach.cases n b i) [
      | inl before ↦ inl before
      | inr (a, close, link) ↦ elim (round.followed a b close link)
          [ inl before ↦ inl before | inr frontier ↦ inr (a, frontier, link) ]
    ]

    module _ (t : LinkSearch) (h : IsNext s t (IsFurther M s)) where
      -- what was taken in, and isn't on the frontier, had been reached
      arrived : (b : Key) → Within (suc n) b → Within n b ⊎ IsFrontier t b
      arrived b i = elim (came b i) [
        | inl before ↦ inl before
        | inr new ↦ elim (h.complete b new) [ inl frontier ↦ inr frontier | inr seen ↦ inl (round.seen b seen) ]
      ]

      next_round : IsRound M (Within (suc n)) t
      next_round = record {
        frontier = λ k i. further k (h.sound k i);
        seen = λ k i. elim (h.seen k i) [
          | inl earlier ↦ reach.still n k (round.seen k earlier)
          | inr frontier ↦ further k (h.sound k frontier)
        ];
        ways = λ w i. h.ways w (elim (arrived (WayKey w) i) [
          | inl before ↦ inl (round.ways w before)
          | inr frontier ↦ inr frontier
        ]);
        followed = λ a b i l. elim (arrived a i) [
          | inl before ↦ inl (reach.next n a b before l)
          | inr frontier ↦ inr frontier
        ];
      }

    -- the ways that are further, with those seen
    pub ways_reached : (ways : List WayId)
        → Lists (λ w. w) way_cmp (λ w. IsSeen s (WayKey w) ⊎ IsFurther M s (WayKey w)) ways
        → Lists (λ w. w) way_cmp (λ w. Within (suc n) (WayKey w)) ways
    ways_reached ways lists = lists_same (λ w. w) way_cmp (λ w. IsSeen s (WayKey w) ⊎ IsFurther M s (WayKey w))
        (λ w. Within (suc n) (WayKey w)) ways lists
        (λ w h. elim h [
          | inl seen ↦ reach.still n (WayKey w) (round.seen (WayKey w) seen)
          | inr new ↦ further (WayKey w) new
        ])
        (λ w h. elim (came (WayKey w) h) [ inl before ↦ inl (round.ways w before) | inr new ↦ inr new ])

  pub rounds_more : (m n : ℕ) (s t : LinkSearch) → IsRound M (Within n) s → AreRounds M m s t
      → IsRound M (Within (m + n)) t
  rounds_more zero n s t round same = let e : n ≡ 0 + n = omega arith in
      subst (λ k. IsRound M (Within k) t) e (subst (IsRound M (Within n)) same round)
  rounds_more (suc m) n s t round (u, before, last) = let e : suc (m + n) ≡ suc m + n = omega arith in
      subst (λ k. IsRound M (Within k) t) e (next_round (m + n) u (rounds_more m n s u round before) t last)

-- ---- from some keys

-- the key is within n links of one of the keys
abbrev pub IsWithinAny : Objects → List Key → ℕ → Key → Type 0
IsWithinAny M keys n k = (c : Key) × Contains keys c × IsWithin M n c k

module _ (M : Objects) (keys : List Key) where
  pub reach_any : IsReach M (IsWithinAny M keys)
  reach_any = record {
    next = λ n a b h l. (h.0, h.1, inr (a, h.2, l));
    still = λ n a h. (h.0, h.1, inl h.2);
    cases = λ n b h. elim h.2 [
      | inl before ↦ inl (h.0, h.1, before)
      | inr (a, near, link) ↦ inr (a, (h.0, h.1, near), link)
    ];
  }

  pub begun_any : (s : LinkSearch) → IsBegun keys s → IsRound M (IsWithinAny M keys 0) s
  begun_any s h = record {
    frontier = λ k i. (k, (h.frontier k).0 i, refl);
    seen = λ k i. (k, h.seen k i, refl);
    ways = λ w i. h.ways w (subst (Contains keys) i.2 i.1);
    followed = λ a b i l. inr ((h.frontier a).1 (subst (Contains keys) i.2 i.1));
  }
