-- What stays when a search by cost makes one more visit.
use Rattle.std.proofs.Common.{◌≡◌, ◌⊎◌, inl, inr, ℕ, ◌+◌, ◌<◌, ◌≤◌, List, [], ◌∷◌, ◌++◌, length, Option, Some, None}
use Rattle.std.proofs.Common.{slice_get, Contains, refl, sym, ◌∙◌, ap, subst, arith, take, get_or}
use Rattle.std.specs.BTreeMap.{BTreeMap}
use Rattle.std.specs.List.Sorted.{IsPermutation}
use Rattle.std.proofs.lemmas.List.{length_push, take_more, take_all}
use Rattle.std.proofs.lemmas.List.Sorted.{Contains-permutation, IsPermutation-sym}
use Rattle.std.proofs.lemmas.Option.{slice_get_within}
use Rattle.ordered_lists.proofs.ListMembers.{contains_head, contains_later, contains_cases, contains_more}
use Rattle.ordered_lists.proofs.ListMembers.{contains_none}
use Rattle.ordered_lists.proofs.ListPlaces.{stands_left, stands_last, stands_cases, one_stands}
use Rattle.road_base.specs.declared.location.Location.{Location}
use Rattle.road_model.specs.declared.lists.PieceName.{PieceName}
use Rattle.road_model.specs.declared.lists.TurnArc.{TurnArc}
use Rattle.context_search.specs.declared.ends.Goal.{Goal}
use Rattle.context_search.specs.declared.marks.Origin.{Origin}
use Rattle.context_search.specs.declared.marks.Origin.TheVariants.{Begins, Follows}
use Rattle.context_search.specs.declared.spots.Spot.{Spot}
use Rattle.context_search.specs.Marks.{At, at_of, key_of}
use Rattle.least_cost.specs.declared.visiting.CostVisit.{CostVisit}
use Rattle.least_cost.specs.declared.candidates.Candidate.{Candidate}
use Rattle.least_cost.specs.Certified.{AtMost}
use Rattle.least_cost.specs.Latitudes.{latitudes_left}
use Rattle.least_cost.specs.PlaceCosts.{places_cost}
use Rattle.least_cost.specs.CostVisits.{Visiting, ContextNames, names_at, IsVisitedAt, IsNewVisit, IsOffered}
use Rattle.least_cost.specs.CostVisits.{LeadsOn, ComesFrom}
use Rattle.least_cost.specs.CostVisits.{HasBefore, IsVisiting, Extends, Widens, AreWaiting, AreFollowed, AreMet, IsOver}
use Rattle.least_cost.specs.CostVisits.{IsBettered, IsClosed, IsDone, AreDone, IsFollowedBy, EndsOver, IsFoundOver}
use Rattle.least_cost.specs.CostVisits.{IsFoundAfter, cost_in, goal_cost}
use Rattle.least_cost.proofs.LawCosts.{at_most_trans}

-- ---- what stays while the list of visits grows

module _ (m n : List CostVisit) (stays : (k : ℕ) (v : CostVisit) → slice_get m k ≡ Some v → slice_get n k ≡ Some v)
  where
    pub reached_stays : (q : ContextNames) (c : ℕ) → IsVisitedAt m q c → IsVisitedAt n q c
    reached_stays q c r = record {
      place = r.place;
      visit = r.visit;
      at = stays r.place r.visit r.at;
      named = r.named;
      cost = r.cost;
    }

    pub comes_stays : (j : ℕ) (v : CostVisit) → ComesFrom m j v → ComesFrom n j v
    comes_stays j v c = record {
      before = c.before;
      at = stays j c.before c.at;
      arc = c.arc;
      has = c.has;
      leads = c.leads;
      cost = c.cost;
    }

    pub before_stays : (k : ℕ) (v : CostVisit) → HasBefore m k v → HasBefore n k v
    before_stays k v b = record {
      before = b.before;
      is = b.is;
      less = b.less;
      comes = comes_stays b.before v b.comes;
    }

    pub followed_stays : (L : List At) (x : At) (c : ℕ) (arcs : List TurnArc) → AreFollowed L m x c arcs
        → AreFollowed L n x c arcs
    followed_stays L x c arcs f a has =
        let r = f a has in
        (r.0, r.1, r.2, reached_stays (key_of r.0) (c + places_cost r.0.piece.places) r.3)

    pub over_stays : (goals : BTreeMap PieceName Goal) (found : Option Candidate) → IsFoundOver goals m found
        → IsFoundOver goals n found
    over_stays goals found o = record {
      candidate = o.candidate;
      is = o.is;
      place = o.place;
      goal = o.goal;
      end = o.end;
      ends =
          let e = o.ends in
          record {
            visit = e.visit;
            at = stays o.place e.visit e.at;
            arc = e.arc;
            has = e.has;
            met = e.met;
            is_cost = e.is_cost;
          };
    }

    pub found_stays : (goals : BTreeMap PieceName Goal) (best found : Option Candidate)
        → IsFoundAfter goals m best found → IsFoundAfter goals n best found
    found_stays goals best found f = elim f [ inl e ↦ inl e | inr o ↦ inr (over_stays goals found o) ]

    pub met_less : (goals : BTreeMap PieceName Goal) (C D : Option ℕ) (c : ℕ) (arcs : List TurnArc) → AtMost D C
        → AreMet goals C c arcs → AreMet goals D c arcs
    met_less goals C D c arcs less f a g has met = at_most_trans D C (Some (c + goal_cost g)) less (f a g has met)

    pub done_stays : (L : List At) (goals : BTreeMap PieceName Goal) (to : Location) (C D : Option ℕ) (v : CostVisit)
        → AtMost D C → IsDone L goals to C m v → IsDone L goals to D n v
    done_stays L goals to C D v less d = elim d [
      | inl e ↦ elim e [
        | inl over ↦ inl (inl (at_most_trans D C (Some (v.cost + latitudes_left v.spot.piece.now.places to)) less over))
        | inr b ↦ inl (inr (b.0, b.1, reached_stays (names_at v) b.0 b.2))
      ]
      | inr closed ↦ inr (record {
        followed = followed_stays L (at_of v.spot) v.cost (at_of v.spot).context.arcs closed.followed;
        met = met_less goals C D v.cost (at_of v.spot).context.arcs less closed.met;
      })
    ]

pub found_again : (goals : BTreeMap PieceName Goal) (visits : List CostVisit) (a b c : Option Candidate)
    → IsFoundAfter goals visits a b → IsFoundAfter goals visits b c → IsFoundAfter goals visits a c
found_again goals visits a b c f g = elim g [
  | inl e ↦ subst (λ x. IsFoundAfter goals visits a x) (sym e) f
  | inr o ↦ inr o
]

pub at_most_same : (C : Option ℕ) → AtMost C C
at_most_same None = tt
at_most_same (Some n) = omega arith

pub extends_same : (m : List CostVisit) → Extends m m
extends_same m = record { stays = λ k v e. e; come = λ k v e. inl e }

pub extends_again : (l m n : List CostVisit) → Extends l m → Extends m n → Extends l n
extends_again l m n g h = record {
  stays = λ k v e. h.stays k v (g.stays k v e);
  come = λ k v e. elim (h.come k v e) [
    | inl f ↦ elim (g.come k v f) [ inl old ↦ inl old | inr b ↦ inr (before_stays m n h.stays k v b) ]
    | inr b ↦ inr b
  ];
}

pub grows_same : (m : Visiting) → Widens m m
grows_same m = record { visits = extends_same m.visits; waits = λ k h. h; new = λ k v e. inl e }

pub grows_again : (l m n : Visiting) → Widens l m → Widens m n → Widens l n
grows_again l m n g h = record {
  visits = extends_again l.visits m.visits n.visits g.visits h.visits;
  waits = λ k i. h.waits k (g.waits k i);
  new = λ k v e. elim (h.new k v e) [
    | inl f ↦ elim (g.new k v f) [ inl old ↦ inl old | inr i ↦ inr (h.waits k i) ]
    | inr i ↦ inr i
  ];
}

-- ---- a context that is visited anew

module _ (spot : Spot) (cost : ℕ) (origin : Origin) where
  fresh : CostVisit
  fresh = record { spot = spot; cost = cost; origin = origin; whole = places_cost spot.piece.now.places }

  pub record IsFresh (v : CostVisit) : Type 0 where
    pub spot_is : v.spot ≡ spot
    pub cost_is : v.cost ≡ cost
    pub origin_is : v.origin ≡ origin
    pub whole_is : v.whole ≡ places_cost v.spot.piece.now.places

  fresh_is : (v : CostVisit) → v ≡ fresh → IsFresh v
  unfolding fresh
  fresh_is v e = record {
    spot_is = ap (λ w. w.spot) e;
    cost_is = ap (λ w. w.cost) e;
    origin_is = ap (λ w. w.origin) e;
    whole_is = ap (λ w. w.whole) e ∙ sym (ap (λ w. places_cost w.spot.piece.now.places) e);
  }

  module _ (m n : Visiting) where
    module _ (new : IsNewVisit spot cost origin m n) where
      visits_are : n.visits ≡ m.visits ++ fresh ∷ []
      unfolding fresh
      visits_are = new.visits

      new_stays : (k : ℕ) (v : CostVisit) → slice_get m.visits k ≡ Some v → slice_get n.visits k ≡ Some v
      new_stays k v e = subst (λ l. slice_get l k ≡ Some v) (sym visits_are) (stands_left m.visits (fresh ∷ []) k v e)

      new_cases : (k : ℕ) (v : CostVisit) → slice_get n.visits k ≡ Some v
          → (slice_get m.visits k ≡ Some v) ⊎ ((k ≡ length m.visits) × (v ≡ fresh))
      new_cases k v e = stands_cases m.visits fresh k v (subst (λ l. slice_get l k ≡ Some v) visits_are e)

      new_last : slice_get n.visits (length m.visits) ≡ Some fresh
      new_last = subst (λ l. slice_get l (length m.visits) ≡ Some fresh) (sym visits_are) (stands_last m.visits fresh)

      new_waits : (k : ℕ) → Contains m.waiting k → Contains n.waiting k
      new_waits k h = Contains-permutation (length m.visits ∷ m.waiting) n.waiting k new.waiting
          (contains_later (length m.visits) k m.waiting h)

      last_waits : Contains n.waiting (length m.visits)
      last_waits = Contains-permutation (length m.visits ∷ m.waiting) n.waiting (length m.visits) new.waiting
          (contains_head (length m.visits) m.waiting)

      new_reached : IsVisitedAt n.visits (key_of (at_of spot)) cost
      unfolding fresh
      new_reached = record { place = length m.visits; visit = fresh; at = new_last; named = refl; cost = omega arith }

      new_within : ((k : ℕ) → Contains m.waiting k → k < length m.visits) → (k : ℕ) → Contains n.waiting k
          → k < length n.visits
      new_within within k h =
          let l : length n.visits ≡ length m.visits + 1 = ap length visits_are ∙ length_push m.visits fresh in
          let back = Contains-permutation n.waiting (length m.visits ∷ m.waiting) k
          (IsPermutation-sym (length m.visits ∷ m.waiting) n.waiting new.waiting) h in
          elim (contains_cases (length m.visits) k m.waiting back) [
            | inl e ↦ omega (arith, e)
            | inr i ↦ let b = within k i in omega arith
          ]

    module _ (is : IsOffered spot cost origin m n) where
      pub offered_stays : (k : ℕ) (v : CostVisit) → slice_get m.visits k ≡ Some v → slice_get n.visits k ≡ Some v
      offered_stays k v e = elim is [
        | inl old ↦ subst (λ l. slice_get l.visits k ≡ Some v) (sym old.1) e
        | inr new ↦ new_stays new k v e
      ]

      pub offered_waits : (k : ℕ) → Contains m.waiting k → Contains n.waiting k
      offered_waits k h = elim is [
        | inl old ↦ subst (λ l. Contains l.waiting k) (sym old.1) h
        | inr new ↦ new_waits new k h
      ]

      -- what stands in the list now: what stood there before, or the visit that waits
      pub offered_cases : (k : ℕ) (v : CostVisit) → slice_get n.visits k ≡ Some v
          → (slice_get m.visits k ≡ Some v) ⊎ ((k ≡ length m.visits) × IsFresh v × Contains n.waiting k)
      offered_cases k v e = elim is [
        | inl old ↦ inl (subst (λ l. slice_get l.visits k ≡ Some v) old.1 e)
        | inr new ↦ elim (new_cases new k v e) [
          | inl before ↦ inl before
          | inr last ↦ inr (
            last.0,
            fresh_is v last.1,
            subst (λ j. Contains n.waiting j) (sym last.0) (last_waits new),
          )
        ]
      ]

      pub offered_reached : IsVisitedAt n.visits (key_of (at_of spot)) cost
      offered_reached = elim is [
        | inl old ↦ subst (λ l. IsVisitedAt l.visits (key_of (at_of spot)) cost) (sym old.1) old.0
        | inr new ↦ new_reached new
      ]

      pub offered_visiting : (L : List At) → IsVisiting L m → Contains L (at_of spot) → IsVisiting L n
      offered_visiting L s listed = record {
        listed = λ k v e. elim (offered_cases k v e) [
          | inl old ↦ s.listed k v old
          | inr last ↦ subst (λ t. Contains L (at_of t)) (sym last.1.spot_is) listed
        ];
        wholes = λ k v e. elim (offered_cases k v e) [ inl old ↦ s.wholes k v old | inr last ↦ last.1.whole_is ];
        within = λ k h. elim is [
          | inl old ↦
              subst (λ l. k < length l.visits) (sym old.1)
              (s.within k (subst (λ l. Contains l.waiting k) old.1 h))
          | inr new ↦ new_within new s.within k h
        ];
      }

-- ---- where an arc leads

module _ (L : List At) (place : ℕ) (v : CostVisit) (arc : TurnArc) (m n : Visiting)
    (is : IsFollowedBy L place v arc m n) where
  abbrev cost_there : ℕ
  cost_there = v.cost + places_cost is.to.piece.now.places

  pub arc_visiting : IsVisiting L m → IsVisiting L n
  arc_visiting s = offered_visiting is.to cost_there (Follows place) m n is.offered L s is.listed

  fresh_before : slice_get m.visits place ≡ Some v → Contains (at_of v.spot).context.arcs arc → (k : ℕ) (w : CostVisit)
      → k ≡ length m.visits → IsFresh is.to cost_there (Follows place) w → HasBefore n.visits k w
  fresh_before at has k w last f =
      let within = slice_get_within m.visits place v at in
      let spot : is.to ≡ w.spot = sym f.spot_is in
      record {
        before = place;
        is = f.origin_is;
        less = omega arith;
        comes = record {
          before = v;
          at = offered_stays is.to cost_there (Follows place) m n is.offered place v at;
          arc = arc;
          has = has;
          leads = subst (λ t. LeadsOn (at_of v.spot) arc (at_of t)) spot is.leads;
          cost = f.cost_is ∙ ap (λ t. v.cost + places_cost t.piece.now.places) spot;
        };
      }

  pub arc_grows : slice_get m.visits place ≡ Some v → Contains (at_of v.spot).context.arcs arc → Widens m n
  arc_grows at has = record {
    visits = record {
      stays = offered_stays is.to cost_there (Follows place) m n is.offered;
      come = λ k w e. elim (offered_cases is.to cost_there (Follows place) m n is.offered k w e) [
        | inl old ↦ inl old
        | inr last ↦ inr (fresh_before at has k w last.0 last.1)
      ];
    };
    waits = offered_waits is.to cost_there (Follows place) m n is.offered;
    new = λ k w e. elim (offered_cases is.to cost_there (Follows place) m n is.offered k w e) [
      | inl old ↦ inl old
      | inr last ↦ inr last.2
    ];
  }

  pub arc_followed : (y : At) × Contains L y × LeadsOn (at_of v.spot) arc y
      × IsVisitedAt n.visits (key_of y) (v.cost + places_cost y.piece.places)
  arc_followed = (
    at_of is.to,
    is.listed,
    is.leads,
    offered_reached is.to cost_there (Follows place) m n is.offered,
  )

-- with one arc more
pub more_followed : (L : List At) (visits : List CostVisit) (x : At) (c : ℕ) (arcs : List TurnArc) (i : ℕ) (d : TurnArc)
    → i < length arcs
    → (y : At) × Contains L y × LeadsOn x (get_or arcs i d) y × IsVisitedAt visits (key_of y) (c + places_cost
    y.piece.places)
    → AreFollowed L visits x c (take i arcs) → AreFollowed L visits x c (take (i + 1) arcs)
more_followed L visits x c arcs i d h now old a has =
    elim (contains_more (take i arcs) (get_or arcs i d) a (subst (λ l. Contains l a) (take_more arcs i d h) has)) [
      | inl before ↦ old a before
      | inr same ↦ (now.0, now.1, subst (λ b. LeadsOn x b now.0) (sym same) now.2, now.3)
    ]

pub all_followed : (L : List At) (visits : List CostVisit) (x : At) (c : ℕ) (arcs : List TurnArc) (i : ℕ)
    → length arcs ≤ i → AreFollowed L visits x c (take i arcs) → AreFollowed L visits x c arcs
all_followed L visits x c arcs i h f = subst (λ l. AreFollowed L visits x c l) (take_all i arcs h) f

-- ---- what is taken out to be gone on from

pub record IsPopped (m p : Visiting) (place : ℕ) : Type 0 where
  pub visits : p.visits ≡ m.visits
  pub waiting : IsPermutation m.waiting (place ∷ p.waiting)

module _ (L : List At) (m p : Visiting) (place : ℕ) (is : IsPopped m p place) where
  back_at : (k : ℕ) (v : CostVisit) → slice_get p.visits k ≡ Some v → slice_get m.visits k ≡ Some v
  back_at k v e = subst (λ l. slice_get l k ≡ Some v) is.visits e

  pub popped_at : (k : ℕ) (v : CostVisit) → slice_get m.visits k ≡ Some v → slice_get p.visits k ≡ Some v
  popped_at k v e = subst (λ l. slice_get l k ≡ Some v) (sym is.visits) e

  pub popped_waits : (k : ℕ) → Contains p.waiting k → Contains m.waiting k
  popped_waits k h = Contains-permutation (place ∷ p.waiting) m.waiting k
      (IsPermutation-sym m.waiting (place ∷ p.waiting) is.waiting) (contains_later place k p.waiting h)

  pub popped_visiting : IsVisiting L m → IsVisiting L p
  popped_visiting s = record {
    listed = λ k v e. s.listed k v (back_at k v e);
    wholes = λ k v e. s.wholes k v (back_at k v e);
    within = λ k h. subst (λ l. k < length l) (sym is.visits) (s.within k (popped_waits k h));
  }

  pub popped_place : IsVisiting L m → place < length p.visits
  popped_place s = subst (λ l. place < length l) (sym is.visits)
      (s.within place (Contains-permutation (place ∷ p.waiting) m.waiting place
      (IsPermutation-sym m.waiting (place ∷ p.waiting) is.waiting) (contains_head place p.waiting)))

  pub popped_extends : Extends m.visits p.visits
  popped_extends = record { stays = popped_at; come = λ k v e. inl (back_at k v e) }

  waiting_cases : (k : ℕ) → Contains m.waiting k → (k ≡ place) ⊎ Contains p.waiting k
  waiting_cases k h = contains_cases place k p.waiting
      (Contains-permutation m.waiting (place ∷ p.waiting) k is.waiting h)

  module _ (goals : BTreeMap PieceName Goal) (to : Location) (C D : Option ℕ) (n : Visiting) (grows : Widens p n)
      (less : AtMost D C) where
    still : (k : ℕ) (v : CostVisit) → slice_get m.visits k ≡ Some v → slice_get n.visits k ≡ Some v
    still k v e = grows.visits.stays k v (popped_at k v e)

    -- what is gone on from is done, and all that was done before is
    pub passed : ((v : CostVisit) → slice_get p.visits place ≡ Some v → IsDone L goals to D n.visits v)
        → AreDone L goals to C m → AreDone L goals to D n
    passed now old k v e = elim (grows.new k v e) [
      | inl at ↦
          let before = back_at k v at in
          elim (old k v before) [
            | inl waits ↦ elim (waiting_cases k waits) [
              | inl same ↦ inr (now v (subst (λ j. slice_get p.visits j ≡ Some v) same at))
              | inr more ↦ inl (grows.waits k more)
            ]
            | inr done ↦ inr (done_stays m.visits n.visits still L goals to C D v less done)
          ]
      | inr waits ↦ inl waits
    ]

pub none_waits : (L : List At) (goals : BTreeMap PieceName Goal) (to : Location) (C : Option ℕ) (m : Visiting)
    (visits : List CostVisit) → visits ≡ m.visits → m.waiting ≡ [] → AreDone L goals to C m → (k : ℕ) (v : CostVisit)
    → slice_get visits k ≡ Some v → IsDone L goals to C visits v
none_waits L goals to C m visits same none old k v e =
    elim (old k v (subst (λ l. slice_get l k ≡ Some v) same e)) [
      | inl waits ↦ absurd (contains_none k (subst (λ l. Contains l k) none waits))
      | inr done ↦ subst (λ l. IsDone L goals to C l v) (sym same) done
    ]
