-- What a search by cost has found is a drive of least cost.
use Rattle.std.proofs.Common.{◌≡◌, ◌⊎◌, inl, inr, ℕ, ◌+◌, ◌-◌, ◌<◌, ◌≤◌, List, [], map, Option, Some, None, slice_get}
use Rattle.std.proofs.Common.{Contains, refl, sym, ◌∙◌, ap, subst, arith, take, drop}
use Rattle.std.specs.BTreeMap.{BTreeMap}
use Rattle.std.proofs.lemmas.Option.{slice_get_within}
use Rattle.road_base.specs.declared.ids.NodeId.{NodeId}
use Rattle.road_base.specs.declared.ids.Step.{Step}
use Rattle.road_base.specs.declared.location.Location.{Location}
use Rattle.road_base.specs.Objects.{Objects}
use Rattle.road_model.specs.declared.lists.PieceName.{PieceName}
use Rattle.road_model.specs.Rules.{Rules}
use Rattle.road_model.specs.Blocks.{IsPieceEntry}
use Rattle.road_model.specs.Naming.{OnePiece}
use Rattle.road_model.specs.Pieces.{Span, spell}
use Rattle.context_search.specs.declared.ends.Begin.{Begin}
use Rattle.context_search.specs.declared.ends.DriveEnds.{DriveEnds}
use Rattle.context_search.specs.declared.ends.Goal.{Goal}
use Rattle.context_search.specs.declared.marks.Origin.TheVariants.{Follows}
use Rattle.context_search.specs.Marks.{At, at_of, key_of, key_cmp}
use Rattle.context_search.specs.Reaching.{LeadsTo}
use Rattle.context_search.specs.Routes.{spelled}
use Rattle.context_search.specs.Searching.{LeadsWithin, LeadsAlong, StopsAt, within_piece}
use Rattle.context_search.specs.Sought.{AreSpots, AreEnds}
use Rattle.context_search.proofs.SearchTargets.{entry_spells}
use Rattle.context_search.proofs.SearchTogether.{leads_within, ends_within, entry_ascends}
use Rattle.least_cost.specs.declared.candidates.Candidate.{Candidate}
use Rattle.least_cost.specs.declared.candidates.FoundEnd.{FoundEnd}
use Rattle.least_cost.specs.declared.candidates.FoundEnd.TheVariants.{Within, Over}
use Rattle.least_cost.specs.declared.visiting.CostVisit.{CostVisit}
use Rattle.least_cost.specs.Certified.{AtMost, Certified, IsCertified, IsLeastFor}
use Rattle.least_cost.specs.Cheapest.{IsRouteOf, LeadsNowhere}
use Rattle.least_cost.specs.Costs.{cost_of, location_of}
use Rattle.least_cost.specs.CostVisits.{HaveOrigins, HasBefore, Extends, AreBegun, IsReachedFrom, AreWithin, IsFoundBy}
use Rattle.least_cost.specs.CostVisits.{IsFoundAfter, IsExhausted, EndsWithin, EndsOver, HasEnd, cost_in, within_cost}
use Rattle.least_cost.specs.Lowered.{number_left}
use Rattle.least_cost.specs.PlaceCosts.{places_cost}
use Rattle.least_cost.specs.Trails.{IsDriveOf, Descend, Ascend}
use Rattle.least_cost.proofs.CostPlaces.{cost_within}
use Rattle.least_cost.proofs.LawCosts.{at_most_trans}
use Rattle.least_cost.proofs.LawExhausted.{exhausted_shows, exhausted_certified}
use Rattle.least_cost.proofs.LawSpots.{numbers_of, one_spots}
use Rattle.least_cost.proofs.LeastParts.{taken_dropped}
use Rattle.least_cost.proofs.LeastStarts.{nothing_at}
use Rattle.least_cost.proofs.LeastTrails.{driven, leads_along, costs_along}
use Rattle.least_cost.proofs.LeastVisits.{before_stays, reached_stays}

-- ---- what the visits of the starts keep while the search goes on

module _ (m n : List CostVisit) (more : Extends m n) where
  pub origins_stay : (starts : List Begin) → HaveOrigins starts m → HaveOrigins starts n
  origins_stay starts old k v e = elim (more.come k v e) [
    | inl before ↦ elim (old k v before) [
      | inl b ↦ inl b
      | inr f ↦ inr (before_stays m n more.stays k v f)
    ]
    | inr f ↦ inr f
  ]

  pub all_stay : (L : List At) (starts : List Begin) → AreBegun L starts m → AreBegun L starts n
  all_stay L starts old s has =
      let r = old s has in
      record {
        from = r.from;
        listed = r.listed;
        named = r.named;
        reached = reached_stays m n more.stays (key_of r.from) (places_cost (drop s.first r.from.piece.places))
            r.reached;
      }

pub within_less : (starts : List Begin) (goals : BTreeMap PieceName Goal) (C D : Option ℕ) → AtMost D C
    → AreWithin starts goals C → AreWithin starts goals D
within_less starts goals C D less w s g has met rises =
    at_most_trans D C (Some (within_cost s g)) less (w s g has met rises)

module _ (starts : List Begin) (goals : BTreeMap PieceName Goal) (visits : List CostVisit) where
  end_still : (cost : ℕ) (end : FoundEnd) → HasEnd starts goals [] cost end → HasEnd starts goals visits cost end
  end_still cost (Within s g) h = h
  end_still cost (Over place g) h = absurd (nothing_at [] place h.visit refl h.at)

  found_still : (best : Option Candidate) → IsFoundBy starts goals [] best → IsFoundBy starts goals visits best
  found_still None h = tt
  found_still (Some c) h = end_still c.cost c.end h

  pub found_by : (best found : Option Candidate) → IsFoundBy starts goals [] best
      → IsFoundAfter goals visits best found → IsFoundBy starts goals visits found
  found_by best found old after = elim after [
    | inl e ↦ subst (λ x. IsFoundBy starts goals visits x) (sym e) (found_still best old)
    | inr o ↦
        let end : HasEnd starts goals visits o.candidate.cost o.candidate.end
        = subst (λ z. HasEnd starts goals visits o.candidate.cost z) (sym o.end) o.ends in
        subst (λ x. IsFoundBy starts goals visits x) (sym o.is) end
  ]

-- ---- the steps of visits

pub descends : (starts : List Begin) (visits : List CostVisit) → HaveOrigins starts visits → Descend visits
descends starts visits origins k j v e o = elim (origins k v e) [
  | inl b ↦ let h = sym b.is ∙ o in cc
  | inr f ↦
      let h : Follows f.before ≡ Follows j = sym f.is ∙ o in
      let same : f.before ≡ j = cc in
      subst (λ i. i < k) same f.less
]

pub ascends : (M : Objects) (P : Rules) (L : List At) (visits : List CostVisit) → AreSpots M P L
    → ((k : ℕ) (v : CostVisit) → slice_get visits k ≡ Some v → Contains L (at_of v.spot)) → Ascend visits
ascends M P L visits are listed k v e =
    let s = are.sound (at_of v.spot) (listed k v e) in
    entry_ascends M P s.1.way v.spot.piece.now s.1.listed

-- ---- what was found

module _ (M : Objects) (P : Rules) (L : List At) (are : AreSpots M P L) (one : OnePiece M P) (E : DriveEnds)
    (ends_are : AreEnds M P E) (visits : List CostVisit)
    (listed : (k : ℕ) (v : CostVisit) → slice_get visits k ≡ Some v → Contains L (at_of v.spot))
    (origins : HaveOrigins E.starts.items visits) (inside : LeadsWithin M P E.a E.b) (across : LeadsAlong M P E.a E.b)
  where
    within_costs : (s : Begin) (g : Goal) (cost : ℕ) → EndsWithin E.starts.items E.goals s g cost
        → cost_of M (take (g.last + 1 - s.first) (drop s.first (spelled s.piece.now))) ≡ Some cost
    within_costs s g cost h =
        let from = ends_are.starts.sound s h.is in
        let to = ends_are.goals.sound s.piece.now.name g h.met in
        let same : to.listed.piece ≡ from.listed.piece = one to.listed.piece from.listed.piece to.listed.is
        from.listed.is
        (sym to.listed.named ∙ to.named ∙ from.listed.named) in
        let stops : StopsAt M from.listed.piece g.last E.b = subst (λ p. StopsAt M p g.last E.b) same to.stops in
        let ps = s.piece.now.places in
        let whole = cost_within M P from.way s.piece.now from.listed s.first g.last h.rises
        (slice_get_within (spell from.listed.piece) g.last stops.step stops.at) in
        ap (λ l. cost_of M (take (g.last + 1 - s.first) (drop s.first l)))
        (entry_spells M P from.way s.piece.now from.listed)
        ∙ whole ∙ ap (λ l. Some (places_cost l)) (sym (taken_dropped s.first (g.last + 2) ps))
        ∙ ap Some (sym h.is_cost)

    pub found_leads : (cost : ℕ) (end : FoundEnd) (d : List Step) → HasEnd E.starts.items E.goals visits cost end
        → IsDriveOf visits end d → LeadsTo M P E.a E.b d
    found_leads cost (Within s g) d h is =
        let from = ends_are.starts.sound s h.is in
        let to = ends_are.goals.sound s.piece.now.name g h.met in
        subst (LeadsTo M P E.a E.b) (sym is) (leads_within M P one E.a E.b s g from to inside h.rises)
    found_leads cost (Over place g) d h is =
        let r = driven M P L visits E.a is.first one are listed E.starts.items ends_are.starts origins is.trail in
        leads_along M P L visits E.a is.first one E.b E.goals ends_are.goals across is.places place g r cost h d is.is

    pub found_costs : (cost : ℕ) (end : FoundEnd) (d : List Step) → HasEnd E.starts.items E.goals visits cost end
        → IsDriveOf visits end d → cost_of M d ≡ Some cost
    found_costs cost (Within s g) d h is = ap (cost_of M) is ∙ within_costs s g cost h
    found_costs cost (Over place g) d h is =
        let r = driven M P L visits E.a is.first one are listed E.starts.items ends_are.starts origins is.trail in
        costs_along M P L visits E.a is.first one E.b E.goals ends_are.goals across is.places place g r cost h d is.is

module _ (M : Objects) (P : Rules) (L : List At) (are : AreSpots M P L) (one : OnePiece M P) (E : DriveEnds)
    (ends_are : AreEnds M P E) (to : Location) (to_at : location_of M (Some E.b) ≡ Some to) (visits : List CostVisit)
    (best : Option Candidate) (ex : IsExhausted L E to visits best) (inside : LeadsWithin M P E.a E.b) (across :
    LeadsAlong M P E.a E.b)
    (law : (pi : List Span → Option ℕ) → Certified M P E.a E.b (cost_in best) pi
    → IsLeastFor M P E.a E.b (cost_in best))
  where
    least_for : IsLeastFor M P E.a E.b (cost_in best)
    least_for = law (numbers_of L (map (number_left visits (cost_in best) to) L))
        (exhausted_shows M P L are E ends_are to to_at visits best ex)

    -- the list shows it
    pub list_shows : (K : List At) → AreSpots M P K → (list : List (Option ℕ))
        → list ≡ map (number_left visits (cost_in best) to) K → IsCertified M P E.a E.b (cost_in best) list
    list_shows K spots list is =
        let same : K ≡ L = one_spots M P K L spots are in
        subst (λ l. IsCertified M P E.a E.b (cost_in best) l)
        (sym (is ∙ ap (map (number_left visits (cost_in best) to)) same))
        (exhausted_certified M P L are E ends_are to to_at visits best ex)

    pub route_of : (c : Candidate) → best ≡ Some c → (d : List Step) → IsDriveOf visits c.end d
        → IsRouteOf M P E.a E.b c.cost d
    route_of c is d drive =
        let has : HasEnd E.starts.items E.goals visits c.cost c.end
        = subst (λ b. IsFoundBy E.starts.items E.goals visits b) is ex.found in
        record {
          leads = found_leads M P L are one E ends_are visits ex.listed ex.origins inside across c.cost c.end d has
              drive;
          costs = found_costs M P L are one E ends_are visits ex.listed ex.origins inside across c.cost c.end d has
              drive;
          least = subst (λ b. IsLeastFor M P E.a E.b (cost_in b)) is least_for;
        }

    pub nowhere_of : best ≡ None → LeadsNowhere M P E.a E.b
    nowhere_of is = record {
      from = ends_are.from;
      to = ends_are.to;
      none = subst (λ b. IsLeastFor M P E.a E.b (cost_in b)) is least_for;
    }
