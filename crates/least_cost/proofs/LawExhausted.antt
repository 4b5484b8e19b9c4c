-- What a search by cost leaves when it is done shows that no drive costs less than what it found.
use Rattle.std.proofs.Common.{◌≡◌, ◌⊎◌, inl, inr, ℕ, zero, suc, ◌+◌, ◌-◌, ◌≤◌, ◌<◌, List, [], ◌∷◌, ◌++◌, length, map}
use Rattle.std.proofs.Common.{Option, Some, None, Contains, refl, sym, ap, ◌∙◌, subst, arith, slice_get, take, drop}
use Rattle.std.proofs.Common.{append_assoc, length-append, ◌-ℤ◌, IsTrue}
use Rattle.std.specs.Prelude.{unsigned_abs}
use Rattle.std.specs.Cmp.{IsTotalOrder}
use Rattle.std.specs.FinMap.{IsAntisymmetric}
use Rattle.std.specs.Ordering.{is_lt}
use Rattle.std.proofs.lemmas.List.{drop-take, length-map}
use Rattle.std.proofs.lemmas.Option.{slice_get_within}
use Rattle.ordered_lists.proofs.AscendingLists.{Climbs, climbs}
use Rattle.ordered_lists.proofs.Comparisons.{not_itself}
use Rattle.ordered_lists.proofs.ListMembers.{In, in_from_contains}
use Rattle.ordered_lists.proofs.ListPlaces.{stands_last, at_contains}
use Rattle.ordered_lists.proofs.Splits.{same_last, Ends, Nil, Last, ends}
use Rattle.road_base.specs.declared.ids.NodeId.{NodeId}
use Rattle.road_base.specs.declared.ids.WayId.{WayId}
use Rattle.road_base.specs.declared.ids.Step.{Step}
use Rattle.road_base.specs.declared.location.Location.{Location}
use Rattle.road_base.specs.Objects.{Objects}
use Rattle.road_model.specs.declared.lists.Place.{Place}
use Rattle.road_model.specs.declared.lists.Piece.{Piece}
use Rattle.road_model.specs.declared.lists.TurnArc.{TurnArc}
use Rattle.road_model.specs.Rules.{Rules}
use Rattle.road_model.specs.Pieces.{Span, IsPiece, spell}
use Rattle.road_model.specs.Contexts.{One}
use Rattle.road_model.specs.Network.{IsArc, spell_pieces}
use Rattle.road_model.specs.Blocks.{name_of, IsPieceEntry, IsArcEntry}
use Rattle.road_model.proofs.TotalOrders.{name_cmp_total, names_cmp_total, name_cmp_exact, names_cmp_exact}
use Rattle.road_model.proofs.UniqueEntries.{one_piece, one_entry}
use Rattle.road_model.proofs.WalkLists.{spell_pieces-push}
use Rattle.road_model.proofs.FilePlaces.{length-steps}
use Rattle.context_search.specs.declared.ends.Begin.{Begin}
use Rattle.context_search.specs.declared.ends.Goal.{Goal}
use Rattle.context_search.specs.declared.ends.DriveEnds.{DriveEnds}
use Rattle.context_search.specs.Marks.{At, at_of, key_of, key_cmp, names_behind}
use Rattle.context_search.specs.Searching.{BeginsAt, StopsAt, within_piece}
use Rattle.context_search.specs.Sought.{IsSpot, AreSpots, AreEnds}
use Rattle.context_search.specs.Visits.{goal_in}
use Rattle.context_search.proofs.SearchEnds.{begins_by, stops_by}
use Rattle.context_search.proofs.SearchKeys.{key_total, key_exact}
use Rattle.context_search.proofs.SearchTargets.{arc_target, spot_named}
use Rattle.least_cost.specs.declared.visiting.CostVisit.{CostVisit}
use Rattle.least_cost.specs.declared.candidates.Candidate.{Candidate}
use Rattle.least_cost.specs.Costs.{cost_of, plus, location_of}
use Rattle.least_cost.specs.Certified.{AtMost, Certified, IsCertified}
use Rattle.least_cost.specs.CostVisits.{names_at, LeadsOn, IsVisitedAt, AreFollowed, AreMet, IsExhausted, cost_in}
use Rattle.least_cost.specs.Latitudes.{latitudes_from, latitudes_left}
use Rattle.least_cost.specs.Lowered.{least_to, less_left, number_left}
use Rattle.least_cost.specs.PlaceCosts.{places_cost}
use Rattle.least_cost.proofs.CostPlaces.{steps_count, whole_cost, cost_from, cost_up_to, cost_within}
use Rattle.least_cost.proofs.LawCosts.{at_most_trans}
use Rattle.least_cost.proofs.LawLowered.{least_reached, least_stands, lesser_left, lesser_right, lesser_is}
use Rattle.least_cost.proofs.LawSpots.{numbers_of, number_at_spot, numbers_agree}
use Rattle.least_cost.proofs.LeastBounds.{whole_left, part_left}
use Rattle.least_cost.proofs.LeastPlaces.{begins_once, stops_once, lies}

abbrev key_all : IsTotalOrder key_cmp
key_all = key_total name_cmp_total names_cmp_total

abbrev key_ties : IsAntisymmetric key_cmp
key_ties = key_exact name_cmp_exact names_cmp_exact

-- ---- numbers

lowered_by : (C : Option ℕ) (m hx hy w : ℕ) → AtMost C (Some (m + hx)) → hx ≤ hy + w
    → AtMost (less_left C hy) (Some (m + w))
lowered_by None m hx hy w h l = absurd h
lowered_by (Some c) m hx hy w h l = omega arith

raised_by : (C : Option ℕ) (m h w : ℕ) → AtMost C (Some (m + h)) → h ≤ w → AtMost C (Some (m + w))
raised_by None m h w k l = absurd k
raised_by (Some c) m h w k l = omega arith

less_left_over : (C : Option ℕ) (h m : ℕ) → less_left C h ≡ Some m → AtMost C (Some (m + h))
less_left_over None h m e = absurd (cc (e))
less_left_over (Some c) h m e = let f : c - h ≡ m = cc in omega (arith, f)

-- ---- what is written of pieces

module _ (M : Objects) (P : Rules) where
  same_written : (w v : WayId) (e f : Piece) (l : IsPieceEntry M P w e) (m : IsPieceEntry M P v f) → e.name ≡ f.name
      → e ≡ f
  same_written w v e f l m n =
      let p : l.piece ≡ m.piece = one_piece M P l.piece m.piece l.is m.is (sym l.named ∙ n ∙ m.named) in
      let way : w ≡ v = sym l.of ∙ ap (λ q. q.way) p ∙ m.of in
      one_entry M P v e f (subst (λ u. IsPieceEntry M P u e) way l) m n

  -- the way from the last place of one piece to the location is that from the first of one that follows it
  joined_left : (w v : WayId) (e f : Piece) (l : IsPieceEntry M P w e) (m : IsPieceEntry M P v f) (node : NodeId)
      (k : ℕ) → k + 1 ≡ length (spell l.piece) → StopsAt M l.piece k node → BeginsAt M m.piece 0 node → (to : Location)
      → (x : Place) × (slice_get f.places 0 ≡ Some x)
      × (latitudes_left e.places to ≡ unsigned_abs (x.location.lat -ℤ to.lat))
  joined_left w v e f l m node k last stops begins to =
      let s = stops_by M P w e l k node stops in
      let b = begins_by M P v f m 0 node begins in
      let count = steps_count M P w e l in
      let at : length e.places - 1 ≡ k + 1 = omega (arith, last, count) in
      let there : slice_get e.places (length e.places - 1) ≡ Some s.place = ap (slice_get e.places) at ∙ s.at in
      let here : Some s.place.location ≡ Some b.place.location =
      sym (lies M P w e l (k + 1) s.place s.at) ∙ ap (λ n. location_of M (Some n)) (s.is ∙ sym b.is)
      ∙ lies M P v f m 0 b.place b.at in
      let same : s.place.location ≡ b.place.location = cc (here) in
      (b.place, b.at, ap (λ o. latitudes_from o to) there ∙ ap (λ z. unsigned_abs (z.lat -ℤ to.lat)) same)

-- ---- lists

map_at : {A B : Type 0} (f : A → B) (xs : List A) (i : ℕ) (x : A) → slice_get xs i ≡ Some x
    → slice_get (map f xs) i ≡ Some (f x)
map_at f [] i x e = cc
map_at f (y ∷ ys) zero x e = let g : y ≡ x = cc in ap (λ z. Some (f z)) g
map_at f (y ∷ ys) (suc i) x e = map_at f ys i x e

some_first : (xs : List Step) → 0 < length xs → (s : Step) × (more : List Step) × (xs ≡ s ∷ more)
some_first [] h = absurd (omega arith)
some_first (s ∷ more) h = (s, more, refl)

some_last : (xs : List Step) → Ends xs → 0 < length xs → (front : List Step) × (s : Step) × (xs ≡ front ++ s ∷ [])
some_last xs (Nil e) h = absurd (let f = ap length e in omega (arith, f))
some_last xs (Last front s e) h = (front, s, e)

around_end : (b f : List Step) (u : Step) (r : List Step) → (b ++ (f ++ u ∷ [])) ++ r ≡ (b ++ f) ++ u ∷ r
around_end b f u r = simp append_assoc

abbrev Rising : List At → Type 0
Rising = Climbs key_of key_cmp key_all

by_key : (L : List At) → Rising L → (x y : At) → In x L → In y L → key_of x ≡ key_of y → x ≡ y
by_key [] up x y i j e = absurd i
by_key (z ∷ L) up x y (inl f) (inl g) e = f ∙ sym g
by_key (z ∷ L) up x y (inl f) (inr j) e = absurd (not_itself key_cmp key_all (key_of y)
    (subst (λ k. IsTrue (is_lt (key_cmp k (key_of y)))) (ap key_of (sym f) ∙ e) (up.0 y j)))
by_key (z ∷ L) up x y (inr i) (inl g) e = absurd (not_itself key_cmp key_all (key_of x)
    (subst (λ k. IsTrue (is_lt (key_cmp k (key_of x)))) (ap key_of (sym g) ∙ sym e) (up.0 x i)))
by_key (z ∷ L) up x y (inr i) (inr j) e = by_key L up.1 x y i j e

-- ---- a search that is done

module _ (M : Objects) (P : Rules) (L : List At) (are : AreSpots M P L) (e : DriveEnds) (between : AreEnds M P e)
    (to : Location) (there : location_of M (Some e.b) ≡ Some to) (visits : List CostVisit) (best : Option Candidate)
    (done : IsExhausted L e to visits best) where
  abbrev C : Option ℕ
  C = cost_in best

  abbrev left : At → ℕ
  left x = latitudes_left x.piece.places to

  abbrev number : At → Option ℕ
  number = number_left visits C to

  one_named : (x y : At) → Contains L x → Contains L y → key_of x ≡ key_of y → x ≡ y
  one_named x y i j k = by_key L (climbs key_of key_cmp key_all L are.up) x y (in_from_contains L x i)
      (in_from_contains L y j) k

  visit_is : (k : ℕ) (v : CostVisit) → slice_get visits k ≡ Some v → (x : At) → Contains L x → names_at v ≡ key_of x
      → at_of v.spot ≡ x
  visit_is k v at x has named = one_named (at_of v.spot) x (done.listed k v at) has named

  -- where the arcs from a context lead is come to at no more than n and the arc's cost, and C at most so
  record Closed (x : At) (n : ℕ) : Type 0 where
    followed : AreFollowed L visits x n x.context.arcs
    met : AreMet e.goals C n x.context.arcs

  done_at : (x : At) → Contains L x → (n : ℕ) → least_to visits (key_of x) ≡ Some n
      → AtMost C (Some (n + left x)) ⊎ Closed x n
  done_at x has n h =
      let c = least_stands key_all key_ties visits (key_of x) n h in
      let same : at_of c.visit.spot ≡ x = visit_is c.place c.visit c.at x has c.named in
      elim (done.done c.place c.visit c.at) [
        | inl o ↦ elim o [
          | inl over ↦ inl (subst (λ m. AtMost C (Some (m + left x))) c.cost
              (subst (λ z. AtMost C (Some (c.visit.cost + left z))) same over))
          | inr b ↦
              let r = b.2 in
              let low = least_reached key_all key_ties visits (key_of x) r.place r.visit r.at (r.named ∙ c.named) in
              let least : n ≤ r.visit.cost = subst (λ o. AtMost o (Some r.visit.cost)) h low in
              let less = b.1 in
              let most = r.cost in
              let is = c.cost in
              absurd (omega (arith, least, less, most, is))
        ]
        | inr closed ↦ inr (record {
          followed = subst (λ z. AreFollowed L visits z n z.context.arcs) same
              (subst (λ m. AreFollowed L visits (at_of c.visit.spot) m (at_of c.visit.spot).context.arcs) c.cost
              closed.followed);
          met = subst (λ z. AreMet e.goals C n z.context.arcs) same
              (subst (λ m. AreMet e.goals C m (at_of c.visit.spot).context.arcs) c.cost closed.met);
        })
      ]

  number_done : (x : At) → Contains L x → (n : ℕ) → number x ≡ Some n → AtMost C (Some (n + left x)) ⊎ Closed x n
  number_done x has n h = elim (lesser_is (least_to visits (key_of x)) (less_left C (left x))) [
    | inl f ↦ done_at x has n (sym f ∙ h)
    | inr f ↦ inl (less_left_over C (left x) n (sym f ∙ h))
  ]

  number_reached : (y : At) (n : ℕ) → IsVisitedAt visits (key_of y) n → AtMost (number y) (Some n)
  number_reached y n r =
      let low = least_reached key_all key_ties visits (key_of y) r.place r.visit r.at r.named in
      at_most_trans (number y) (Some r.visit.cost) (Some n)
      (at_most_trans (number y) (least_to visits (key_of y)) (Some r.visit.cost)
      (lesser_left (least_to visits (key_of y)) (less_left C (left y))) low) r.cost

  abbrev list : List (Option ℕ)
  list = map number L

  abbrev pi : List Span → Option ℕ
  pi = numbers_of L list

  pi_at : (c : List Span) (x : At) → Contains L x → IsSpot M P c x → pi c ≡ number x
  pi_at c x has s =
      let i = at_contains L x has in
      let h = number_at_spot M P L list are (length-map L number) i.0 x c i.1 s in
      let k = map_at number L i.0 x i.1 in
      let same : Some (pi c) ≡ Some (number x) = sym h ∙ k in
      cc (same)

  -- ---- an arc

  -- the contexts between which an arc leads, as they are written
  record Joint (c : List Span) (t : Span) (d : List Span) : Type 0 where
    from : At
    has_from : Contains L from
    from_is : IsSpot M P c from
    onto : At
    has_onto : Contains L onto
    onto_is : IsSpot M P d onto
    arc : TurnArc
    has_arc : Contains from.context.arcs arc
    named : arc.piece ≡ name_of t
    leads : LeadsOn from arc onto
    piece : onto_is.listed.piece ≡ t
    place : Place
    at : slice_get onto.piece.places 0 ≡ Some place
    near : left from ≡ unsigned_abs (place.location.lat -ℤ to.lat)

  spelled_some : (p : Span) → IsPiece M P p → 0 < length (spell p)
  spelled_some p is =
      let n = length-steps p.way p.index (p.end - p.index) p.dir in
      let up = is.ascends in
      omega (arith, n, up)

  joint : (c : List Span) (t : Span) (d : List Span) → IsArc M P c t d → Joint c t d
  joint c t d goes =
      let x = are.complete c goes.from in
      let y = are.complete d goes.to.holds in
      let b = x.2.entry.before in
      let p = x.2.listed.piece in
      let arc : TurnArc = record { piece = name_of t; length = length d } in
      let entry : IsArcEntry M P c arc
      = record { piece = t; target = d; arc = goes; named = refl; length_is = refl } in
      let target = arc_target M P c x.0 x.2 arc entry in
      let same = same_last y.2.entry.before y.2.listed.piece target.before t (sym y.2.is ∙ target.is) in
      let key = spot_named M P target.before t y.0 (subst (λ l. IsSpot M P l y.0) target.is y.2) in
      let names : (name_of t, map name_of target.before) ≡ (arc.piece, names_behind x.0 (arc.length - 1))
      = λ i. (name_of t, sym target.names i) in
      let f = some_first (spell t) (spelled_some t goes.by) in
      let u = some_last (spell p) (ends (spell p)) (spelled_some p x.2.listed.is) in
      let whole : spell_pieces c ++ spell t ≡ (spell_pieces b ++ u.0) ++ u.1 ∷ (f.0 ∷ f.1) =
      ap (λ v. spell_pieces v ++ spell t) x.2.is
      ∙ ap (λ v. v ++ spell t) (spell_pieces-push b p)
      ∙ ap (λ v. (spell_pieces b ++ v) ++ spell t) u.2
      ∙ ap (λ v. (spell_pieces b ++ (u.0 ++ u.1 ∷ [])) ++ v) f.2
      ∙ around_end (spell_pieces b) u.0 u.1 (f.0 ∷ f.1) in
      let passes = goes.legal.follows (spell_pieces b ++ u.0) u.1 f.0 f.1 whole in
      let stops : StopsAt M p (length u.0) passes.node
      = record { step = u.1; at = ap (λ v. slice_get v (length u.0)) u.2 ∙ stands_last u.0 u.1; head = passes.from } in
      let begins : BeginsAt M t 0 passes.node
      = record { step = f.0; at = ap (λ v. slice_get v 0) f.2; tail = passes.to } in
      let count : length u.0 + 1 ≡ length (spell p) = sym (ap length u.2 ∙ length-append u.0 (u.1 ∷ [])) in
      let j = joined_left M P x.2.way y.2.way x.0.piece y.0.piece x.2.listed y.2.listed passes.node (length u.0) count
      stops (subst (λ q. BeginsAt M q 0 passes.node) (sym same.last) begins) to in
      record {
        from = x.0;
        has_from = x.1;
        from_is = x.2;
        onto = y.0;
        has_onto = y.1;
        onto_is = y.2;
        arc = arc;
        has_arc = x.2.entry.arcs.complete arc (subst (λ l. IsArcEntry M P l arc) x.2.is entry);
        named = refl;
        leads = key ∙ names;
        piece = same.last;
        place = j.0;
        at = j.1;
        near = j.2;
      }

  -- the cost of its piece
  onto_cost : (c : List Span) (t : Span) (d : List Span) (j : Joint c t d)
      → cost_of M (spell t) ≡ Some (places_cost j.onto.piece.places)
  onto_cost c t d j = subst (λ q. cost_of M (spell q) ≡ Some (places_cost j.onto.piece.places)) j.piece
      (whole_cost M P j.onto_is.way j.onto.piece j.onto_is.listed)

  step_bound : (c : List Span) (t : Span) (d : List Span) (j : Joint c t d) (o : Option ℕ) → number j.from ≡ o
      → AtMost (number j.onto) (plus o (Some (places_cost j.onto.piece.places)))
  step_bound c t d j None h = tt
  step_bound c t d j (Some n) h =
      let w = places_cost j.onto.piece.places in
      elim (number_done j.from j.has_from n h) [
        | inl over ↦
            let far = whole_left j.onto.piece.places j.place to j.at in
            let near = j.near in
            at_most_trans (number j.onto) (less_left C (left j.onto)) (Some (n + w))
            (lesser_right (least_to visits (key_of j.onto)) (less_left C (left j.onto)))
            (lowered_by C n (left j.from) (left j.onto) w over (omega (arith, far, near)))
        | inr closed ↦
            let g = closed.followed j.arc j.has_arc in
            let same : g.0 ≡ j.onto = one_named g.0 j.onto g.1 j.has_onto (g.2 ∙ sym j.leads) in
            number_reached j.onto (n + w)
            (subst (λ z. IsVisitedAt visits (key_of z) (n + places_cost z.piece.places)) same g.3)
      ]

  goes_on : (c : List Span) (t : Span) (d : List Span) → IsArc M P c t d
      → AtMost (pi d) (plus (pi c) (cost_of M (spell t)))
  goes_on c t d goes =
      let j = joint c t d goes in
      subst (λ o. AtMost o (plus (pi c) (cost_of M (spell t)))) (sym (pi_at d j.onto j.has_onto j.onto_is))
      (subst (λ o. AtMost (number j.onto) (plus o (cost_of M (spell t)))) (sym (pi_at c j.from j.has_from j.from_is))
      (subst (λ o. AtMost (number j.onto) (plus (number j.from) o)) (sym (onto_cost c t d j))
      (step_bound c t d j (number j.from) refl)))

  -- ---- where drives begin and end

  -- a piece on which a drive may begin, and where
  record Started (p : Span) (i : ℕ) : Type 0 where
    start : Begin
    has : Contains e.starts.items start
    named : start.piece.now.name ≡ name_of p
    way : WayId
    listed : IsPieceEntry M P way start.piece.now
    piece : listed.piece ≡ p
    first : start.first ≡ i

  started : (p : Span) (i : ℕ) → IsPiece M P p → BeginsAt M p i e.a → Started p i
  started p i is b =
      let s = between.starts.complete p i is b in
      let w = between.starts.sound s.0 s.1 in
      let same : w.listed.piece ≡ p = one_piece M P w.listed.piece p w.listed.is is (sym w.listed.named ∙ s.2) in
      let here = begins_by M P w.way s.0.piece.now w.listed i e.a
      (subst (λ q. BeginsAt M q i e.a) (sym same) b) in
      record {
        start = s.0;
        has = s.1;
        named = s.2;
        way = w.way;
        listed = w.listed;
        piece = same;
        first = begins_once M P w.way s.0.piece.now w.listed s.0.first i e.a
            (begins_by M P w.way s.0.piece.now w.listed s.0.first e.a w.begins) here;
      }

  -- a piece on which a drive may end, and where
  record Ended (p : Span) (j : ℕ) : Type 0 where
    goal : Goal
    is : goal_in e.goals (name_of p) ≡ Some goal
    named : goal.piece.now.name ≡ name_of p
    way : WayId
    listed : IsPieceEntry M P way goal.piece.now
    last : goal.last ≡ j

  ended : (p : Span) (j : ℕ) → IsPiece M P p → StopsAt M p j e.b → Ended p j
  ended p j is b =
      let g = between.goals.complete p j is b in
      let w = between.goals.sound (name_of p) g.0 g.1 in
      let same : w.listed.piece ≡ p = one_piece M P w.listed.piece p w.listed.is is (sym w.listed.named ∙ w.named) in
      let here = stops_by M P w.way g.0.piece.now w.listed j e.b
      (subst (λ q. StopsAt M q j e.b) (sym same) b) in
      record {
        goal = g.0;
        is = g.1;
        named = w.named;
        way = w.way;
        listed = w.listed;
        last = stops_once M P w.way g.0.piece.now w.listed g.0.last j e.b
            (stops_by M P w.way g.0.piece.now w.listed g.0.last e.b w.stops) here;
      }

  begins : (p : Span) (i : ℕ) → IsPiece M P p → BeginsAt M p i e.a
      → AtMost (pi (p ∷ [])) (cost_of M (drop i (spell p)))
  begins p i is b =
      let s = started p i is b in
      let r = done.begun s.start s.has in
      let y = are.complete (p ∷ []) (One p refl is) in
      let key : key_of y.0 ≡ (name_of p, []) = spot_named M P [] p y.0 y.2 in
      let named : key_of r.from ≡ key_of y.0 = r.named ∙ ap (λ n. (n, [])) s.named ∙ sym key in
      let same : r.from ≡ y.0 = one_named r.from y.0 r.listed y.1 named in
      let reached : IsVisitedAt visits (key_of y.0) (places_cost (drop i y.0.piece.places)) =
      subst (λ z. IsVisitedAt visits (key_of z) (places_cost (drop i z.piece.places))) same
      (subst (λ k. IsVisitedAt visits (key_of r.from) (places_cost (drop k r.from.piece.places))) s.first r.reached) in
      let piece : y.2.listed.piece ≡ p = (same_last y.2.entry.before y.2.listed.piece [] p (sym y.2.is)).last in
      let spelled : cost_of M (drop i (spell p)) ≡ Some (places_cost (drop i y.0.piece.places)) =
      subst (λ q. cost_of M (drop i (spell q)) ≡ Some (places_cost (drop i y.0.piece.places))) piece
      (cost_from M P y.2.way y.0.piece y.2.listed i
      (subst (λ q. i < length (spell q)) (sym piece) (slice_get_within (spell p) i b.step b.at))) in
      subst (λ o. AtMost o (cost_of M (drop i (spell p)))) (sym (pi_at (p ∷ []) y.0 y.1 y.2))
      (subst (λ o. AtMost (number y.0) o) (sym spelled)
      (number_reached y.0 (places_cost (drop i y.0.piece.places)) reached))

  end_bound : (c : List Span) (t : Span) (d : List Span) (j : Joint c t d) (k : ℕ) → IsPiece M P t
      → StopsAt M t k e.b → (o : Option ℕ) → number j.from ≡ o
      → AtMost C (plus o (Some (places_cost (take (k + 2) j.onto.piece.places))))
  end_bound c t d j k is b None h = tt
  end_bound c t d j k is b (Some n) h =
      let places = j.onto.piece.places in
      let entry = j.onto_is.listed in
      let s = stops_by M P j.onto_is.way j.onto.piece entry k e.b
      (subst (λ q. StopsAt M q k e.b) (sym j.piece) b) in
      let lie : Some s.place.location ≡ Some to =
      sym (lies M P j.onto_is.way j.onto.piece entry (k + 1) s.place s.at)
      ∙ ap (λ v. location_of M (Some v)) s.is ∙ there in
      let far = part_left places k j.place s.place to j.at s.at (cc (lie)) in
      let near = j.near in
      elim (number_done j.from j.has_from n h) [
        | inl over ↦ raised_by C n (left j.from) (places_cost (take (k + 2) places)) over (omega (arith, far, near))
        | inr closed ↦
            let g = ended t k is b in
            let met = closed.met j.arc g.goal j.has_arc (ap (goal_in e.goals) j.named ∙ g.is) in
            let same : g.goal.piece.now ≡ j.onto.piece = same_written M P g.way j.onto_is.way g.goal.piece.now
            j.onto.piece g.listed entry (g.named ∙ sym (entry.named ∙ ap name_of j.piece)) in
            subst (λ z. AtMost C (Some (n + places_cost (take (k + 2) z.places)))) same
            (subst (λ m. AtMost C (Some (n + places_cost (take (m + 2) g.goal.piece.now.places)))) g.last met)
      ]

  onto_part : (c : List Span) (t : Span) (d : List Span) (j : Joint c t d) (k : ℕ) → k < length (spell t)
      → cost_of M (take (k + 1) (spell t)) ≡ Some (places_cost (take (k + 2) j.onto.piece.places))
  onto_part c t d j k h = subst
      (λ q. cost_of M (take (k + 1) (spell q)) ≡ Some (places_cost (take (k + 2) j.onto.piece.places))) j.piece
      (cost_up_to M P j.onto_is.way j.onto.piece j.onto_is.listed k
      (subst (λ q. k < length (spell q)) (sym j.piece) h))

  stops : (c : List Span) (t : Span) (d : List Span) (k : ℕ) → IsArc M P c t d → StopsAt M t k e.b
      → AtMost C (plus (pi c) (cost_of M (take (k + 1) (spell t))))
  stops c t d k goes b =
      let j = joint c t d goes in
      subst (λ o. AtMost C (plus o (cost_of M (take (k + 1) (spell t))))) (sym (pi_at c j.from j.has_from j.from_is))
      (subst (λ o. AtMost C (plus (number j.from) o))
      (sym (onto_part c t d j k (slice_get_within (spell t) k b.step b.at)))
      (end_bound c t d j k goes.by b (number j.from) refl))

  within : (p : Span) (i j : ℕ) → IsPiece M P p → BeginsAt M p i e.a → StopsAt M p j e.b → i ≤ j
      → AtMost C (cost_of M (within_piece p i j))
  within p i j is b u l =
      let s = started p i is b in
      let g = ended p j is u in
      let first = s.first in
      let last = g.last in
      let k = done.within s.start g.goal s.has (ap (goal_in e.goals) s.named ∙ g.is)
      (omega (arith, first, last, l)) in
      let places = s.start.piece.now.places in
      let n : i + (j + 2 - i) ≡ j + 2 = omega (arith, l) in
      let cut : drop i (take (j + 2) places) ≡ take (j + 2 - i) (drop i places)
      = ap (λ m. drop i (take m places)) (sym n) ∙ drop-take i (j + 2 - i) places in
      let spelled : cost_of M (within_piece p i j) ≡ Some (places_cost (take (j + 2 - i) (drop i places))) =
      subst (λ q. cost_of M (within_piece q i j) ≡ Some (places_cost (take (j + 2 - i) (drop i places)))) s.piece
      (cost_within M P s.way s.start.piece.now s.listed i j l
      (subst (λ q. j < length (spell q)) (sym s.piece) (slice_get_within (spell p) j u.step u.at))) in
      subst (λ o. AtMost C o) (sym spelled)
      (subst (λ z. AtMost C (Some (places_cost z))) cut
      (subst (λ m. AtMost C (Some (places_cost (drop i (take (m + 2) places))))) last
      (subst (λ m. AtMost C (Some (places_cost (drop m (take (g.goal.last + 2) places))))) first k)))

  -- the numbers at the contexts that the search leaves show that no drive costs less
  pub exhausted_shows : Certified M P e.a e.b (cost_in best)
      (numbers_of L (map (number_left visits (cost_in best) to) L))
  exhausted_shows = record { begins = begins; goes_on = goes_on; ends = stops; within = within }

  -- and so does their list
  pub exhausted_certified : IsCertified M P e.a e.b (cost_in best) (map (number_left visits (cost_in best) to) L)
  exhausted_certified = record {
    at = pi;
    agrees = numbers_agree M P L list are (length-map L number);
    shows = exhausted_shows;
  }
