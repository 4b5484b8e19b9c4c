-- The visits that lead to one spell a drive of the cost that is noted there.
use Rattle.std.proofs.Common.{◌≡◌, inl, inr, ℕ, ◌+◌, ◌-◌, ◌<◌, ◌≤◌, List, [], ◌∷◌, ◌++◌, length, map, Some, slice_get}
use Rattle.std.proofs.Common.{Contains, refl, sym, ◌∙◌, ap, subst, arith, take, drop, append_assoc, append-nil}
use Rattle.std.proofs.Common.{length-append}
use Rattle.std.specs.BTreeMap.{BTreeMap}
use Rattle.std.specs.List.{flat_map}
use Rattle.std.proofs.lemmas.Grind.{flat_map-append}
use Rattle.std.proofs.lemmas.List.{drop-append-le}
use Rattle.std.proofs.lemmas.Option.{slice_get_within}
use Rattle.ordered_lists.proofs.ListPlaces.{one_stands}
use Rattle.road_base.specs.declared.ids.NodeId.{NodeId}
use Rattle.road_base.specs.declared.ids.Step.{Step}
use Rattle.road_base.specs.Objects.{Objects}
use Rattle.road_model.specs.declared.lists.PieceName.{PieceName}
use Rattle.road_model.specs.declared.lists.TurnArc.{TurnArc}
use Rattle.road_model.specs.Rules.{Rules}
use Rattle.road_model.specs.Pieces.{Span, spell}
use Rattle.road_model.specs.Network.{IsArc, spell_pieces}
use Rattle.road_model.specs.Walks.{WalksTo, Start, Go}
use Rattle.road_model.specs.Blocks.{name_of}
use Rattle.road_model.specs.Naming.{OnePiece}
use Rattle.road_model.proofs.WalkLists.{spell_pieces-push}
use Rattle.context_search.specs.declared.ends.Begin.{Begin}
use Rattle.context_search.specs.declared.ends.Goal.{Goal}
use Rattle.context_search.specs.declared.marks.Origin.TheVariants.{Begins, Follows}
use Rattle.context_search.specs.Marks.{At, at_of, key_of, names_behind}
use Rattle.context_search.specs.Reaching.{LeadsTo}
use Rattle.context_search.specs.Routes.{spelled}
use Rattle.context_search.specs.Searching.{BeginsAt, LeadsAlong, along_pieces}
use Rattle.context_search.specs.Sought.{IsSpot, IsGoalAt, AreSpots, AreStarts, AreGoals}
use Rattle.context_search.proofs.SearchTargets.{arc_of, arc_target, same_context, spot_spelled, entry_spells}
use Rattle.least_cost.specs.declared.visiting.CostVisit.{CostVisit}
use Rattle.least_cost.specs.Costs.{cost_of, plus}
use Rattle.least_cost.specs.CostVisits.{HaveOrigins, IsBeginning, HasBefore, BeginsDrive, ComesFrom, EndsOver, names_at}
use Rattle.least_cost.specs.CostVisits.{goal_cost}
use Rattle.least_cost.specs.PlaceCosts.{places_cost}
use Rattle.least_cost.specs.Trails.{IsTrail, One, More, IsWayTo, steps_at, steps_by}
use Rattle.least_cost.proofs.CostPlaces.{whole_cost, cost_from, cost_up_to}
use Rattle.least_cost.proofs.LawCosts.{cost_append}

one_beginning : (first other : ℕ) → Begins other ≡ Begins first → other ≡ first
one_beginning first other e = cc

one_before : (j other : ℕ) → Follows other ≡ Follows j → other ≡ j
one_before j other e = cc

-- what is dropped of lists one behind the other, where the first has more
drop_first : (x y z : List Step) (n : ℕ) → n < length x → drop n ((x ++ y) ++ z) ≡ drop n x ++ (y ++ z)
drop_first x y z n h = ap (drop n) (append_assoc x y z) ∙ drop-append-le n x (y ++ z) (omega arith)

module _ (M : Objects) (P : Rules) (L : List At) (visits : List CostVisit) (a : NodeId) (first : ℕ) where
  -- the pieces of the visits at these places are those of a walk from the node to the context of the visit at place k,
  -- and from the first step on they cost what is noted there
  pub record Driven (places : List ℕ) (k : ℕ) : Type 0 where
    pub visit : CostVisit
    pub at : slice_get visits k ≡ Some visit
    pub context : List Span
    pub is : IsSpot M P context (at_of visit.spot)
    pub piece : Span
    pub whole : List Span
    pub walks : WalksTo M P (piece ∷ whole) context
    pub begins : BeginsAt M piece first a
    pub spells : flat_map (steps_at visits) places ≡ spell_pieces (piece ∷ whole)
    pub costs : cost_of M (drop first (flat_map (steps_at visits) places)) ≡ Some visit.cost

  longer : (places : List ℕ) (p : Span) (whole : List Span) → flat_map (steps_at visits) places ≡ spell_pieces (p ∷
      whole)
      → BeginsAt M p first a → first ≤ length (flat_map (steps_at visits) places)
  longer places p whole e b =
      let h = slice_get_within (spell p) first b.step b.at in
      let l = length-append (spell p) (spell_pieces whole) in
      let f = ap length e in
      omega arith

  module _ (one : OnePiece M P) (are : AreSpots M P L)
      (listed : (k : ℕ) (v : CostVisit) → slice_get visits k ≡ Some v → Contains L (at_of v.spot)) where
    here_steps : (k : ℕ) (v : CostVisit) → slice_get visits k ≡ Some v → (b : List Span) (q : Span)
        → IsSpot M P (b ++ q ∷ []) (at_of v.spot) → steps_at visits k ≡ spell q
    here_steps k v at b q s = ap steps_by at ∙ spot_spelled M P b q (at_of v.spot) s

    driven_one : (starts : List Begin) → AreStarts M P a starts → (k : ℕ) (v : CostVisit) → slice_get visits k ≡ Some v
        → BeginsDrive starts v first → Driven (k ∷ []) k
    driven_one starts start k v at begun =
        let s = start.sound begun.start begun.is in
        let p = s.listed.piece in
        let spot = are.sound (at_of v.spot) (listed k v at) in
        let named : key_of (at_of v.spot) ≡ (name_of p, []) = begun.named ∙ ap (λ n. (n, [])) s.listed.named in
        let same : spot.0 ≡ p ∷ [] = same_context M P one spot.0 (at_of v.spot) spot.1 [] p tt s.listed.is named in
        let is : IsSpot M P (p ∷ []) (at_of v.spot) = subst (λ c. IsSpot M P c (at_of v.spot)) same spot.1 in
        let begins : BeginsAt M p first a = subst (λ i. BeginsAt M p i a) begun.step s.begins in
        let spells : flat_map (steps_at visits) (k ∷ []) ≡ spell p ++ []
        = ap (λ l. l ++ []) (here_steps k v at [] p is) in
        let piece : is.listed.piece ≡ p = one is.listed.piece p is.listed.is s.listed.is
        (sym is.listed.named ∙ ap (λ n. n.0) named) in
        let cost : cost_of M (drop first (spell p)) ≡ Some (places_cost (drop first v.spot.piece.now.places))
        = subst (λ q. first < length (spell q)
        → cost_of M (drop first (spell q)) ≡ Some (places_cost (drop first v.spot.piece.now.places))) piece
        (cost_from M P is.way v.spot.piece.now is.listed first)
        (slice_get_within (spell p) first begins.step begins.at) in
        record {
          visit = v;
          at = at;
          context = p ∷ [];
          is = is;
          piece = p;
          whole = [];
          walks = Start p s.listed.is refl refl;
          begins = begins;
          spells = spells;
          costs = ap (λ l. cost_of M (drop first l)) (spells ∙ append-nil (spell p)) ∙ cost ∙ ap Some (sym begun.cost);
        }

    driven_arc : (js : List ℕ) (j : ℕ) → (d : Driven js j) → (k : ℕ) (v : CostVisit) → slice_get visits k ≡ Some v
        → (arc : TurnArc) → Contains (at_of d.visit.spot).context.arcs arc
        → key_of (at_of v.spot) ≡ (arc.piece, names_behind (at_of d.visit.spot) (arc.length - 1))
        → v.cost ≡ d.visit.cost + places_cost v.spot.piece.now.places → Driven (js ++ k ∷ []) k
    driven_arc js j d k v at arc has leads cost =
        let x = at_of d.visit.spot in
        let y = at_of v.spot in
        let r = arc_of M P d.context x d.is arc has in
        let t = arc_target M P d.context x d.is arc r in
        let spot = are.sound y (listed k v at) in
        let named : key_of y ≡ (name_of r.piece, map name_of t.before) = leads ∙ (λ i. (r.named i, t.names i)) in
        let same : spot.0 ≡ t.before ++ r.piece ∷ []
        = same_context M P one spot.0 y spot.1 t.before r.piece t.pieces r.arc.by named in
        let is : IsSpot M P (t.before ++ r.piece ∷ []) y = subst (λ c. IsSpot M P c y) same spot.1 in
        let goes : IsArc M P d.context r.piece (t.before ++ r.piece ∷ [])
        = subst (λ c. IsArc M P d.context r.piece c) t.is r.arc in
        let steps = here_steps k v at t.before r.piece is in
        let all : flat_map (steps_at visits) (js ++ k ∷ []) ≡ flat_map (steps_at visits) js ++ spell r.piece
        = flat_map-append (steps_at visits) js (k ∷ [])
        ∙ ap (λ l. flat_map (steps_at visits) js ++ l) (append-nil (steps_at visits k) ∙ steps) in
        let apart : drop first (flat_map (steps_at visits) js ++ spell r.piece)
        ≡ drop first (flat_map (steps_at visits) js) ++ spell r.piece
        = drop-append-le first (flat_map (steps_at visits) js) (spell r.piece)
        (longer js d.piece d.whole d.spells d.begins) in
        let piece : is.listed.piece ≡ r.piece = one is.listed.piece r.piece is.listed.is r.arc.by
        (sym is.listed.named ∙ ap (λ n. n.0) named) in
        let whole : cost_of M (spell r.piece) ≡ Some (places_cost v.spot.piece.now.places)
        = subst (λ q. cost_of M (spell q) ≡ Some (places_cost v.spot.piece.now.places)) piece
        (whole_cost M P is.way v.spot.piece.now is.listed) in
        record {
          visit = v;
          at = at;
          context = t.before ++ r.piece ∷ [];
          is = is;
          piece = d.piece;
          whole = d.whole ++ r.piece ∷ [];
          walks = Go (d.piece ∷ d.whole) d.context r.piece d.walks goes refl;
          begins = d.begins;
          spells = all ∙ ap (λ l. l ++ spell r.piece) d.spells ∙ sym (spell_pieces-push (d.piece ∷ d.whole) r.piece);
          costs = ap (λ l. cost_of M (drop first l)) all ∙ ap (cost_of M) apart
              ∙ cost_append M (drop first (flat_map (steps_at visits) js)) (spell r.piece)
              ∙ (λ i. plus (d.costs i) (whole i)) ∙ ap Some (sym cost);
        }

    driven_more : (js : List ℕ) (j : ℕ) → (d : Driven js j) → (k : ℕ) (v : CostVisit) → slice_get visits k ≡ Some v
        → ComesFrom visits j v → Driven (js ++ k ∷ []) k
    driven_more js j d k v at c =
        let same : c.before ≡ d.visit = one_stands visits j c.before d.visit c.at d.at in
        driven_arc js j d k v at c.arc (subst (λ (w : CostVisit). Contains (at_of w.spot).context.arcs c.arc) same
        c.has)
        (subst (λ (w : CostVisit). key_of (at_of v.spot)
        ≡ (c.arc.piece, names_behind (at_of w.spot) (c.arc.length - 1))) same c.leads)
        (subst (λ (w : CostVisit). v.cost ≡ w.cost + places_cost v.spot.piece.now.places) same c.cost)

    module _ (starts : List Begin) (start : AreStarts M P a starts) (origins : HaveOrigins starts visits) where
      begins_there : (k : ℕ) (v : CostVisit) → slice_get visits k ≡ Some v → v.origin ≡ Begins first
          → BeginsDrive starts v first
      begins_there k v e o = elim (origins k v e) [
        | inl b ↦ subst (λ i. BeginsDrive starts v i) (one_beginning first b.first (sym b.is ∙ o)) b.begins
        | inr f ↦ let h : Begins first ≡ Follows f.before = sym o ∙ f.is in cc
      ]

      comes_there : (k j : ℕ) (v : CostVisit) → slice_get visits k ≡ Some v → v.origin ≡ Follows j → ComesFrom visits
          j v
      comes_there k j v e o = elim (origins k v e) [
        | inl b ↦ let h : Begins b.first ≡ Follows j = sym b.is ∙ o in cc
        | inr f ↦ subst (λ i. ComesFrom visits i v) (one_before j f.before (sym f.is ∙ o)) f.comes
      ]

      pub driven : {ks : List ℕ} {k : ℕ} → IsTrail visits first ks k → Driven ks k
      driven (One k v e o is) = subst (λ l. Driven l k) (sym is) (driven_one starts start k v e (begins_there k v e o))
      driven (More js j k v trail e o is) = subst (λ l. Driven l k) (sym is)
          (driven_more js j (driven trail) k v e (comes_there k j v e o))

  module _ (one : OnePiece M P) (b : NodeId) (goals : BTreeMap PieceName Goal) (are : AreGoals M P b goals)
      (leads : LeadsAlong M P a b) (places : List ℕ) (place : ℕ) (goal : Goal) (d : Driven places place) (cost : ℕ)
      (met : EndsOver goals visits place goal cost) (route : List Step)
      (is : route ≡ drop first (flat_map (steps_at visits) places ++ take (goal.last + 1) (spelled goal.piece.now)))
    where
      same : met.visit ≡ d.visit
      same = one_stands visits place met.visit d.visit met.at d.at

      to : IsGoalAt M P b met.arc.piece goal
      to = are.sound met.arc.piece goal met.met

      last : take (goal.last + 1) (spelled goal.piece.now) ≡ take (goal.last + 1) (spell to.listed.piece)
      last = ap (take (goal.last + 1)) (entry_spells M P to.way goal.piece.now to.listed)

      route_is : route ≡ along_pieces d.piece first d.whole to.listed.piece goal.last
      route_is = is ∙ ap (λ l. drop first (flat_map (steps_at visits) places ++ l)) last
          ∙ ap (λ l. drop first (l ++ take (goal.last + 1) (spell to.listed.piece))) d.spells
          ∙ drop_first (spell d.piece) (spell_pieces d.whole) (take (goal.last + 1) (spell to.listed.piece)) first
          (slice_get_within (spell d.piece) first d.begins.step d.begins.at)

      pub leads_along : LeadsTo M P a b route
      leads_along =
          let has : Contains (at_of d.visit.spot).context.arcs met.arc
          = subst (λ (w : CostVisit). Contains (at_of w.spot).context.arcs met.arc) same met.has in
          let r = arc_of M P d.context (at_of d.visit.spot) d.is met.arc has in
          let q = to.listed.piece in
          let t : r.piece ≡ q = one r.piece q r.arc.by to.listed.is
          (sym r.named ∙ sym to.named ∙ to.listed.named) in
          let goes = subst (λ z. IsArc M P d.context z r.target) t r.arc in
          subst (LeadsTo M P a b) (sym route_is)
          (leads d.piece first d.whole d.context q goal.last r.target d.walks goes d.begins to.stops)

      pub costs_along : cost_of M route ≡ Some cost
      costs_along =
          let q = to.listed.piece in
          let front = flat_map (steps_at visits) places in
          let part = take (goal.last + 1) (spell q) in
          let apart : drop first (front ++ part) ≡ drop first front ++ part
          = drop-append-le first front part (longer places d.piece d.whole d.spells d.begins) in
          let up_to = cost_up_to M P to.way goal.piece.now to.listed goal.last
          (slice_get_within (spell q) goal.last to.stops.step to.stops.at) in
          let sum : d.visit.cost + goal_cost goal ≡ cost
          = ap (λ (w : CostVisit). w.cost + goal_cost goal) (sym same) ∙ sym met.is_cost in
          ap (cost_of M) (is ∙ ap (λ l. drop first (front ++ l)) last ∙ apart)
          ∙ cost_append M (drop first front) part ∙ (λ i. plus (d.costs i) (up_to i)) ∙ ap Some sum
