-- What stays when one context more is visited.
use Rattle.std.proofs.Common.{◌≡◌, ◌⊎◌, inl, inr, ℕ, ◌+◌, ◌<◌, ◌≤◌, List, [], ◌∷◌, ◌++◌, length}
use Rattle.std.proofs.Common.{Option, Some, None, false, slice_get, Contains, refl, sym, ◌∙◌}
use Rattle.std.proofs.Common.{ap, subst, arith, take, get_or, MatchOption, Result, Ok, Err, OnOk}
use Rattle.std.specs.Prelude.{is_some}
use Rattle.std.specs.BTreeMap.{BTreeMap}
use Rattle.std.specs.List.Sorted.{IsPermutation}
use Rattle.std.proofs.lemmas.List.{length_push, take_more, take_all}
use Rattle.std.proofs.lemmas.List.Sorted.{Contains-permutation, IsPermutation-sym, length_permutation}
use Rattle.ordered_lists.proofs.ListMembers.{contains_head, contains_later, contains_cases, contains_more}
use Rattle.ordered_lists.proofs.ListMembers.{contains_none}
use Rattle.ordered_lists.proofs.ListPlaces.{stands_left, stands_last, stands_cases, one_stands}
use Rattle.road_model.specs.declared.lists.PieceName.{PieceName}
use Rattle.road_model.specs.declared.lists.TurnArc.{TurnArc}
use Rattle.context_search.specs.declared.ends.Goal.{Goal}
use Rattle.context_search.specs.declared.marks.Origin.{Origin}
use Rattle.context_search.specs.declared.marks.Origin.TheVariants.{Begins, Follows}
use Rattle.context_search.specs.declared.marks.TreeVisit.{TreeVisit}
use Rattle.context_search.specs.declared.spots.Spot.{Spot}
use Rattle.context_search.specs.Marks.{At, at_of, key_of}
use Rattle.context_search.specs.Phases.{PhaseRules}
use Rattle.context_search.specs.Visits.{Marks, IsSearch, IsVisited, Comes, IsNew, IsMarked, Grows, NoneBegun, AreKnown}
use Rattle.context_search.specs.Visits.{StateKey, left, unvisited, visit_key, state_key, target_key}
use Rattle.context_search.specs.Visits.{Misses, IsVisitedBy, AreFollowed, IsClosed, AreClosed}
use Rattle.context_search.proofs.SearchKnown.{not_there, less_by_one}

abbrev Key : Type 0
Key = StateKey

-- ---- what grows

pub grows_same : (L : List At) (m : Marks) → Grows L m m
grows_same L m = record { stays = λ k v e. e; waits = λ k h. h; new = λ k v e. inl e; less = omega arith }

pub grows_again : (L : List At) (l m n : Marks) → Grows L l m → Grows L m n → Grows L l n
grows_again L l m n g h = record {
  stays = λ k v e. h.stays k v (g.stays k v e);
  waits = λ k i. h.waits k (g.waits k i);
  new = λ k v e. elim (h.new k v e) [
    | inl f ↦ elim (g.new k v f) [ inl old ↦ inl old | inr i ↦ inr (h.waits k i) ]
    | inr i ↦ inr i
  ];
  less = let a = g.less in let b = h.less in omega arith;
}

pub begun_same : (m : Marks) → NoneBegun m m
begun_same m k first v e o = e

pub begun_again : (l m n : Marks) → NoneBegun l m → NoneBegun m n → NoneBegun l n
begun_again l m n g h k first v e o = g k first v (h k first v e o) o

module _ (m n : Marks) (stays : (k : ℕ) (v : TreeVisit) → slice_get m.visits k ≡ Some v → slice_get n.visits k ≡ Some v)
  where
    pub visited_stays : (k : Key) → IsVisited m.visits k → IsVisited n.visits k
    visited_stays k h = record { place = h.place; visit = h.visit; at = stays h.place h.visit h.at; named = h.named }

    pub passed_stays : (F : PhaseRules) (L : List At) (x : At) (f : ℕ) (a : TurnArc) → IsVisitedBy F L m.visits x f a
        → IsVisitedBy F L n.visits x f a
    passed_stays F L x f a h = record {
      target = h.target;
      listed = h.listed;
      named = h.named;
      visited = λ g goes. visited_stays (key_of h.target, g) (h.visited g goes);
    }

    pub followed_stays : (F : PhaseRules) (L : List At) (goals : BTreeMap PieceName Goal) (x : At) (f : ℕ)
        (arcs : List TurnArc) → AreFollowed F L goals m.visits x f arcs → AreFollowed F L goals n.visits x f arcs
    followed_stays F L goals x f arcs h a i = let o = h a i in (o.0, passed_stays F L x f a o.1)

    pub closed_stays : (F : PhaseRules) (L : List At) (goals : BTreeMap PieceName Goal) (v : TreeVisit)
        → IsClosed F L goals m.visits v → IsClosed F L goals n.visits v
    closed_stays F L goals v h = followed_stays F L goals (at_of v.spot) v.phase v.spot.context.now.arcs h

    pub comes_stays : (F : PhaseRules) (j : ℕ) (spot : Spot) (phase : ℕ) → Comes F m.visits j spot phase
        → Comes F n.visits j spot phase
    comes_stays F j spot phase h = record {
      before = h.before;
      at = stays j h.before h.at;
      arc = h.arc;
      has = h.has;
      leads = h.leads;
      goes = h.goes;
    }

-- ---- a context that is visited anew

module _ (spot : Spot) (phase : ℕ) (origin : Origin) (m n : Marks) (new : IsNew spot phase origin m n) where
  fresh : TreeVisit
  fresh = record { spot = spot; phase = phase; origin = origin; driven = new.driven }

  visits_are : n.visits ≡ m.visits ++ fresh ∷ []
  unfolding fresh
  visits_are = new.visits

  new_cases : (k : ℕ) (v : TreeVisit) → slice_get n.visits k ≡ Some v
      → (slice_get m.visits k ≡ Some v) ⊎ ((k ≡ length m.visits) × (v ≡ fresh))
  new_cases k v e = stands_cases m.visits fresh k v (subst (λ vs. slice_get vs k ≡ Some v) visits_are e)

  new_stays : (k : ℕ) (v : TreeVisit) → slice_get m.visits k ≡ Some v → slice_get n.visits k ≡ Some v
  new_stays k v e = subst (λ vs. slice_get vs k ≡ Some v) (sym visits_are) (stands_left m.visits (fresh ∷ []) k v e)

  new_last : slice_get n.visits (length m.visits) ≡ Some fresh
  new_last = subst (λ vs. slice_get vs (length m.visits) ≡ Some fresh) (sym visits_are) (stands_last m.visits fresh)

  new_waits : Contains n.waiting (length m.visits)
  new_waits = Contains-permutation (length m.visits ∷ m.waiting) n.waiting (length m.visits) new.waiting
      (contains_head (length m.visits) m.waiting)

  longer : length n.visits ≡ length m.visits + 1
  longer = ap length visits_are ∙ length_push m.visits fresh

  fresh_spot : fresh.spot ≡ spot
  unfolding fresh
  fresh_spot = refl

  fresh_phase : fresh.phase ≡ phase
  unfolding fresh
  fresh_phase = refl

  fresh_key : visit_key fresh ≡ state_key spot phase
  fresh_key = λ i. state_key (fresh_spot i) (fresh_phase i)

  fresh_origin : fresh.origin ≡ origin
  unfolding fresh
  fresh_origin = refl

  new_less : (L : List At) → Contains L (at_of spot) → left L n ≤ left L m
  new_less L has =
      let u = less_by_one L m.visits fresh (at_of spot) phase has new.few fresh_key
      (not_there m.visits (state_key spot phase) new.fresh) in
      let e : unvisited L n.visits ≡ unvisited L (m.visits ++ fresh ∷ []) = ap (unvisited L) visits_are in
      let w : length n.waiting ≡ length (length m.visits ∷ m.waiting)
      = length_permutation (length m.visits ∷ m.waiting) n.waiting new.waiting in
      omega (arith, u, e, w)

  new_grows : (L : List At) → Contains L (at_of spot) → Grows L m n
  new_grows L has = record {
    stays = new_stays;
    waits = λ k h. Contains-permutation (length m.visits ∷ m.waiting) n.waiting k new.waiting
        (contains_later (length m.visits) k m.waiting h);
    new = λ k v e. elim (new_cases k v e) [
      | inl old ↦ inl old
      | inr last ↦ inr (subst (λ j. Contains n.waiting j) (sym last.0) new_waits)
    ];
    less = new_less L has;
  }

  new_visited : IsVisited n.visits (state_key spot phase)
  new_visited = record { place = length m.visits; visit = fresh; at = new_last; named = fresh_key }

  new_within : ((k : ℕ) → Contains m.waiting k → k < length m.visits) → (k : ℕ) → Contains n.waiting k
      → k < length n.visits
  new_within within k h =
      let l = longer in
      let back = Contains-permutation n.waiting (length m.visits ∷ m.waiting) k
      (IsPermutation-sym (length m.visits ∷ m.waiting) n.waiting new.waiting) h in
      elim (contains_cases (length m.visits) k m.waiting back) [
        | inl e ↦ omega (arith, e)
        | inr i ↦ let b = within k i in omega arith
      ]

  new_origin : (v : TreeVisit) (o : Origin) → v ≡ fresh → v.origin ≡ o → origin ≡ o
  new_origin v o e f = sym fresh_origin ∙ sym (ap (λ (w : TreeVisit). w.origin) e) ∙ f

  new_spot : (v : TreeVisit) → v ≡ fresh → v.spot ≡ spot
  new_spot v e = ap (λ (w : TreeVisit). w.spot) e ∙ fresh_spot

  new_phase : (v : TreeVisit) → v ≡ fresh → v.phase ≡ phase
  new_phase v e = ap (λ (w : TreeVisit). w.phase) e ∙ fresh_phase

  new_keeps : (F : PhaseRules) (L : List At) → IsSearch F L m → AreKnown n → Contains L (at_of spot)
      → ((j : ℕ) → origin ≡ Follows j → (j < length m.visits) × Comes F m.visits j spot phase) → IsSearch F L n
  new_keeps F L s known has comes = record {
    known = known;
    listed = λ k v e. elim (new_cases k v e) [
      | inl old ↦ s.listed k v old
      | inr last ↦ subst (λ (z : Spot). Contains L (at_of z)) (sym (new_spot v last.1)) has
    ];
    comes = λ k j v e o. elim (new_cases k v e) [
      | inl old ↦ let h = s.comes k j v old o in (h.0, comes_stays m n new_stays F j v.spot v.phase h.1)
      | inr last ↦
          let h = comes j (new_origin v (Follows j) last.1 o) in (
            subst (λ i. j < i) (sym last.0) h.0,
            subst (λ (z : Spot). Comes F n.visits j z v.phase) (sym (new_spot v last.1))
                (subst (λ (f : ℕ). Comes F n.visits j spot f) (sym (new_phase v last.1))
                (comes_stays m n new_stays F j spot phase h.1)),
          )
    ];
    within = new_within s.within;
  }

  new_begun : (j : ℕ) → origin ≡ Follows j → NoneBegun m n
  new_begun j f k first v e o = elim (new_cases k v e) [
    | inl old ↦ old
    | inr last ↦ let g : origin ≡ Begins first = new_origin v (Begins first) last.1 o in
        let h : Follows j ≡ Begins first = sym f ∙ g in cc
  ]

-- ---- a context that is visited

module _ (spot : Spot) (phase : ℕ) (origin : Origin) (m n : Marks) (is : IsMarked spot phase origin m n) where
  pub marked_grows : (L : List At) → Contains L (at_of spot) → Grows L m n
  marked_grows L has = elim is [
    | inl h ↦ subst (λ l. Grows L m l) (sym h.1) (grows_same L m)
    | inr new ↦ new_grows spot phase origin m n new L has
  ]

  pub marked_keeps : (F : PhaseRules) (L : List At) → IsSearch F L m → AreKnown n → Contains L (at_of spot)
      → ((j : ℕ) → origin ≡ Follows j → (j < length m.visits) × Comes F m.visits j spot phase) → IsSearch F L n
  marked_keeps F L s known has comes = elim is [
    | inl h ↦ subst (λ l. IsSearch F L l) (sym h.1) s
    | inr new ↦ new_keeps spot phase origin m n new F L s known has comes
  ]

  pub marked_visited : IsVisited n.visits (state_key spot phase)
  marked_visited = elim is [
    | inl h ↦ subst (λ (l : Marks). IsVisited l.visits (state_key spot phase)) (sym h.1) h.0
    | inr new ↦ new_visited spot phase origin m n new
  ]

  pub marked_begun : (j : ℕ) → origin ≡ Follows j → NoneBegun m n
  marked_begun j f = elim is [
    | inl h ↦ subst (λ l. NoneBegun m l) (sym h.1) (begun_same m)
    | inr new ↦ new_begun spot phase origin m n new j f
  ]

  -- the visits that begin a drive are those of before, and this one
  pub marked_cases : (k : ℕ) (v : TreeVisit) → slice_get n.visits k ≡ Some v
      → (slice_get m.visits k ≡ Some v) ⊎ ((visit_key v ≡ state_key spot phase) × (v.origin ≡ origin))
  marked_cases k v e = elim is [
    | inl h ↦ inl (subst (λ (l : Marks). slice_get l.visits k ≡ Some v) h.1 e)
    | inr new ↦ elim (stands_cases m.visits
        (record { spot = spot; phase = phase; origin = origin; driven = new.driven }) k v
        (subst (λ vs. slice_get vs k ≡ Some v) new.visits e)) [
          | inl old ↦ inl old
          | inr last ↦ inr (ap visit_key last.1, ap (λ (w : TreeVisit). w.origin) last.1)
        ]
  ]

-- ---- by an arc

follow_from : Origin → ℕ → ℕ
follow_from (Begins first) d = d
follow_from (Follows j) d = j

pub follow_comes : (F : PhaseRules) (m : Marks) (place : ℕ) (v : TreeVisit) (arc : TurnArc) (spot : Spot) (phase : ℕ)
    → place < length m.visits → slice_get m.visits place ≡ Some v
    → ((w : TreeVisit) → slice_get m.visits place ≡ Some w → Contains w.spot.context.now.arcs arc)
    → key_of (at_of spot) ≡ target_key (at_of v.spot) arc → F.go v.phase spot.piece.now.zone ≡ Some phase
    → (j : ℕ) → Follows place ≡ Follows j → (j < length m.visits) × Comes F m.visits j spot phase
unfolding follow_from
follow_comes F m place v arc spot phase within at has leads goes j e =
    let same : place ≡ j = ap (λ o. follow_from o 0) e in
    let c : Comes F m.visits place spot phase
    = record { before = v; at = at; arc = arc; has = has v at; leads = leads; goes = goes } in
    subst (λ i. (i < length m.visits) × Comes F m.visits i spot phase) same (within, c)

some_tells : (x y : ℕ) → Some x ≡ Some y → x ≡ y
some_tells x y e = cc

-- where the phase goes on, in the one phase
pub follow_passes : (F : PhaseRules) (L : List At) (m : Marks) (visits : List TreeVisit) (place : ℕ) (v : TreeVisit)
    (arc : TurnArc) (spot : Spot) (phase : ℕ)
    → slice_get m.visits place ≡ Some v → Contains L (at_of spot) → key_of (at_of spot) ≡ target_key (at_of v.spot) arc
    → F.go v.phase spot.piece.now.zone ≡ Some phase → IsVisited visits (state_key spot phase)
    → (w : TreeVisit) → slice_get m.visits place ≡ Some w → IsVisitedBy F L visits (at_of w.spot) w.phase arc
follow_passes F L m visits place v arc spot phase at listed leads goes visited w also =
    let same = one_stands m.visits place v w at also in
    let p : IsVisitedBy F L visits (at_of v.spot) v.phase arc = record {
      target = at_of spot;
      listed = listed;
      named = leads;
      visited = λ g also. subst (λ (f : ℕ). IsVisited visits (state_key spot f))
          (some_tells phase g (sym goes ∙ also)) visited;
    } in
    subst (λ (u : TreeVisit). IsVisitedBy F L visits (at_of u.spot) u.phase arc) same p

-- where it doesn't go on
pub follow_stops : (F : PhaseRules) (L : List At) (m : Marks) (visits : List TreeVisit) (place : ℕ) (v : TreeVisit)
    (arc : TurnArc) (spot : Spot)
    → slice_get m.visits place ≡ Some v → Contains L (at_of spot) → key_of (at_of spot) ≡ target_key (at_of v.spot) arc
    → F.go v.phase spot.piece.now.zone ≡ None
    → (w : TreeVisit) → slice_get m.visits place ≡ Some w → IsVisitedBy F L visits (at_of w.spot) w.phase arc
follow_stops F L m visits place v arc spot at listed leads none w also =
    let same = one_stands m.visits place v w at also in
    let p : IsVisitedBy F L visits (at_of v.spot) v.phase arc = record {
      target = at_of spot;
      listed = listed;
      named = leads;
      visited = λ g goes. let both : None ≡ Some g = sym none ∙ goes in cc;
    } in
    subst (λ (u : TreeVisit). IsVisitedBy F L visits (at_of u.spot) u.phase arc) same p

-- ---- all arcs of a context

module _ (F : PhaseRules) (L : List At) (goals : BTreeMap PieceName Goal) (visits : List TreeVisit) (x : At) (f : ℕ)
  where
    pub more_followed : (items : List TurnArc) (i : ℕ) (d : TurnArc) → i < length items
        → Misses F goals f (get_or items i d) → IsVisitedBy F L visits x f (get_or items i d)
        → AreFollowed F L goals visits x f (take i items) → AreFollowed F L goals visits x f (take (i + 1) items)
    more_followed items i d h none leads old a has =
        let arc = get_or items i d in
        elim (contains_more (take i items) arc a (subst (λ l. Contains l a) (take_more items i d h) has)) [
          | inl before ↦ old a before
          | inr same ↦ subst (λ (b : TurnArc). Misses F goals f b × IsVisitedBy F L visits x f b) (sym same)
              (none, leads)
        ]

    pub all_followed : (items : List TurnArc) (i : ℕ) → length items ≤ i → items ≡ x.context.arcs
        → AreFollowed F L goals visits x f (take i items) → AreFollowed F L goals visits x f x.context.arcs
    all_followed items i h e old a has =
        old a (subst (λ l. Contains l a) (sym (take_all i items h)) (subst (λ l. Contains l a) (sym e) has))

-- ---- a place that is taken out

pub record IsPopped (m p : Marks) (place : ℕ) : Type 0 where
  pub known : p.known ≡ m.known
  pub visits : p.visits ≡ m.visits
  pub waiting : IsPermutation m.waiting (place ∷ p.waiting)

-- what is known stays
known_same : (m p : Marks) → p.known ≡ m.known → p.visits ≡ m.visits → AreKnown m → AreKnown p
known_same m p e f known =
    let g : AreKnown (record { known = p.known; visits = p.visits; waiting = m.waiting })
    = subst (λ s. AreKnown (record { known = s; visits = p.visits; waiting = m.waiting })) (sym e)
    (subst (λ vs. AreKnown (record { known = m.known; visits = vs; waiting = m.waiting })) (sym f) known) in
    g

module _ (L : List At) (m p : Marks) (place : ℕ) (popped : IsPopped m p place) where
  back_waits : (k : ℕ) → Contains (place ∷ p.waiting) k → Contains m.waiting k
  back_waits k h = Contains-permutation (place ∷ p.waiting) m.waiting k
      (IsPermutation-sym m.waiting (place ∷ p.waiting) popped.waiting) h

  same_visit : (k : ℕ) (v : TreeVisit) → slice_get p.visits k ≡ Some v → slice_get m.visits k ≡ Some v
  same_visit k v e = subst (λ vs. slice_get vs k ≡ Some v) popped.visits e

  pub popped_keeps : (F : PhaseRules) → IsSearch F L m → IsSearch F L p
  popped_keeps F s = record {
    known = known_same m p popped.known popped.visits s.known;
    listed = λ k v e. s.listed k v (same_visit k v e);
    comes = λ k j v e o. subst (λ vs. (j < k) × Comes F vs j v.spot v.phase) (sym popped.visits)
        (s.comes k j v (same_visit k v e) o);
    within = λ k h. subst (λ (vs : List TreeVisit). k < length vs) (sym popped.visits)
        (s.within k (back_waits k (contains_later place k p.waiting h)));
  }

  pub popped_place : (F : PhaseRules) → IsSearch F L m → place < length p.visits
  popped_place F s = subst (λ (vs : List TreeVisit). place < length vs) (sym popped.visits)
      (s.within place (back_waits place (contains_head place p.waiting)))

  pub popped_begun : (n : Marks) → NoneBegun p n → NoneBegun m n
  popped_begun n h k first v e o = same_visit k v (h k first v e o)

  pub popped_stays : (n : Marks) → Grows L p n → (k : Key) → IsVisited m.visits k → IsVisited n.visits k
  popped_stays n g k h = visited_stays p n g.stays k (subst (λ vs. IsVisited vs k) (sym popped.visits) h)

  pub less_left : (n : Marks) → Grows L p n → left L n < left L m
  less_left n g =
      let a = g.less in
      let u : unvisited L p.visits ≡ unvisited L m.visits = ap (unvisited L) popped.visits in
      let w : length (place ∷ p.waiting) ≡ length m.waiting
      = length_permutation m.waiting (place ∷ p.waiting) popped.waiting in
      omega (arith, a, u, w)

  module _ (F : PhaseRules) (goals : BTreeMap PieceName Goal) (n : Marks) (g : Grows L p n)
      (here : (v : TreeVisit) → slice_get p.visits place ≡ Some v → IsClosed F L goals n.visits v) where
    closed_old : (k : ℕ) (v : TreeVisit) → slice_get p.visits k ≡ Some v
        → Contains m.waiting k ⊎ IsClosed F L goals m.visits v → Contains n.waiting k ⊎ IsClosed F L goals n.visits v
    closed_old k v e (inl h) =
        let c = Contains-permutation m.waiting (place ∷ p.waiting) k popped.waiting h in
        elim (contains_cases place k p.waiting c) [
          | inl same ↦ inr (here v (subst (λ i. slice_get p.visits i ≡ Some v) same e))
          | inr later ↦ inl (g.waits k later)
        ]
    closed_old k v e (inr h) = inr (closed_stays p n g.stays F L goals v
        (subst (λ vs. IsClosed F L goals vs v) (sym popped.visits) h))

    pub gone_on : AreClosed F L goals m → AreClosed F L goals n
    gone_on closed k v e = elim (g.new k v e) [
      | inl old ↦ closed_old k v old (closed k v (same_visit k v old))
      | inr i ↦ inl i
    ]

module _ (F : PhaseRules) (L : List At) where
  -- where nothing waits, all are closed
  pub all_closed : (goals : BTreeMap PieceName Goal) (m : Marks) → m.waiting ≡ [] → AreClosed F L goals m
      → (k : ℕ) (v : TreeVisit) → slice_get m.visits k ≡ Some v → IsClosed F L goals m.visits v
  all_closed goals m none closed k v e = elim (closed k v e) [
    | inl h ↦ absurd (contains_none k (subst (λ l. Contains l k) none h))
    | inr c ↦ c
  ]

  pub emptied : (m p : Marks) → p.known ≡ m.known → p.visits ≡ m.visits → p.waiting ≡ [] → IsSearch F L m
      → IsSearch F L p
  emptied m p known visits none s = record {
    known = known_same m p known visits s.known;
    listed = λ k v e. s.listed k v (subst (λ vs. slice_get vs k ≡ Some v) visits e);
    comes = λ k j v e o. subst (λ vs. (j < k) × Comes F vs j v.spot v.phase) (sym visits)
        (s.comes k j v (subst (λ vs. slice_get vs k ≡ Some v) visits e) o);
    within = λ k h. absurd (contains_none k (subst (λ l. Contains l k) none h));
  }

  pub closed_same : (goals : BTreeMap PieceName Goal) (m p : Marks) → p.visits ≡ m.visits
      → m.waiting ≡ [] → AreClosed F L goals m → (k : ℕ) (v : TreeVisit) → slice_get p.visits k ≡ Some v
      → IsClosed F L goals p.visits v
  closed_same goals m p visits none closed k v e = subst (λ vs. IsClosed F L goals vs v) (sym visits)
      (all_closed goals m none closed k v (subst (λ vs. slice_get vs k ≡ Some v) visits e))

pub met_none : {A : Type 0} (o : Option A) (P : Type 0) (Q : A → Type 0) → is_some o ≡ false → MatchOption o P Q → P
met_none None P Q e h = h
met_none (Some x) P Q e h = cc

-- what follows from two facts of a success
pub both_ok : {T E : Type 0} (r : Result T E) {A B C : Type 0} → (A → B → C) → OnOk r A → OnOk r B → OnOk r C
both_ok (Ok x) f a b = f a b
both_ok (Err e) f a b = tt
