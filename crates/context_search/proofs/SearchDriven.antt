-- The visits that lead to one spell a walk from the node where a drive begins.
use Rattle.std.proofs.Common.{◌≡◌, ℕ, ◌+◌, ◌<◌, List, [], ◌∷◌, ◌++◌, length, map, Some, slice_get, Contains, refl, sym}
use Rattle.std.proofs.Common.{◌∙◌, ap, subst, arith, take, drop, append_assoc, append-nil}
use Rattle.std.specs.List.{flat_map}
use Rattle.std.specs.BTreeMap.{BTreeMap}
use Rattle.std.proofs.lemmas.Grind.{flat_map-append}
use Rattle.std.proofs.lemmas.List.{drop-append-le}
use Rattle.std.proofs.lemmas.Option.{slice_get_within}
use Rattle.ordered_lists.proofs.ListPlaces.{one_stands}
use Rattle.road_base.specs.declared.ids.NodeId.{NodeId}
use Rattle.road_base.specs.declared.ids.Step.{Step}
use Rattle.road_base.specs.Objects.{Objects}
use Rattle.road_model.specs.declared.lists.PieceName.{PieceName}
use Rattle.road_model.specs.declared.lists.TurnArc.{TurnArc}
use Rattle.road_model.specs.Rules.{Rules}
use Rattle.road_model.specs.Pieces.{Span, spell}
use Rattle.road_model.specs.Network.{IsArc, spell_pieces}
use Rattle.road_model.specs.Blocks.{name_of}
use Rattle.road_model.specs.Naming.{OnePiece}
use Rattle.road_model.proofs.WalkLists.{spell_pieces-push}
use Rattle.context_search.specs.declared.ends.Begin.{Begin}
use Rattle.context_search.specs.declared.ends.Goal.{Goal}
use Rattle.context_search.specs.declared.marks.Origin.TheVariants.{Follows}
use Rattle.context_search.specs.declared.marks.TreeVisit.{TreeVisit}
use Rattle.context_search.specs.Marks.{At, at_of, key_of}
use Rattle.context_search.specs.Searching.{BeginsAt, along_pieces}
use Rattle.context_search.specs.Phases.{PhaseRules}
use Rattle.context_search.specs.PhaseWalks.{WalksIn, Start, Go, LeadsIn, OnMany, mark_of}
use Rattle.context_search.specs.Sought.{IsSpot, IsGoalAt, AreSpots, AreStarts, AreGoals}
use Rattle.context_search.specs.Routes.{IsChain, One, More, spelled, steps_at}
use Rattle.context_search.specs.Visits.{Marks, IsSearch, Comes, Begun, AreBegun, Meets, visit_key, target_key}
use Rattle.context_search.proofs.SearchRoutes.{steps_known}
use Rattle.context_search.proofs.SearchTargets.{arc_of, arc_target, same_context, spot_spelled, spot_marked}
use Rattle.context_search.proofs.SearchTargets.{entry_spells, entry_marked}

-- what is dropped of lists one behind the other, where the first has more
drop_first : (x y z : List Step) (n : ℕ) → n < length x → drop n ((x ++ y) ++ z) ≡ drop n x ++ (y ++ z)
drop_first x y z n h = ap (drop n) (append_assoc x y z) ∙ drop-append-le n x (y ++ z) (omega arith)

module _ (M : Objects) (P : Rules) (F : PhaseRules) (visits : List TreeVisit) (a : NodeId) (first : ℕ) where
  -- the pieces of the visits at these places are those of a walk from the node to the context of the visit at place k,
  -- in its phase
  pub record Driven (places : List ℕ) (k : ℕ) : Type 0 where
    pub visit : TreeVisit
    pub at : slice_get visits k ≡ Some visit
    pub context : List Span
    pub is : IsSpot M P context (at_of visit.spot)
    pub piece : Span
    pub whole : List Span
    pub walks : WalksIn M P F (piece ∷ whole) context visit.phase
    pub begins : BeginsAt M piece first a
    pub spells : flat_map (steps_at visits) places ≡ spell_pieces (piece ∷ whole)

  visit_steps : (k : ℕ) (v : TreeVisit) → slice_get visits k ≡ Some v
      → (b : List Span) (q : Span) → IsSpot M P (b ++ q ∷ []) (at_of v.spot) → steps_at visits k ≡ spell q
  visit_steps k v at b q s = steps_known visits k v at ∙ spot_spelled M P b q (at_of v.spot) s

  module _ (one : OnePiece M P) (L : List At) (are : AreSpots M P L) where
    driven_one : (starts : List Begin) → AreStarts M P a starts → (k : ℕ) (v : TreeVisit) → slice_get visits k ≡ Some v
        → Contains L (at_of v.spot) → Begun F starts (visit_key v) first → Driven (k ∷ []) k
    driven_one starts start k v at has begun =
        let s = start.sound begun.start begun.is in
        let p = s.listed.piece in
        let x = at_of v.spot in
        let spot = are.sound x has in
        let named : key_of x ≡ (name_of p, []) = ap (λ k. k.0) begun.named ∙ ap (λ n. (n, [])) s.listed.named in
        let phase : v.phase ≡ F.start (mark_of M P p)
        = ap (λ k. k.1) begun.named ∙ ap F.start (entry_marked M P s.way begun.start.piece.now s.listed) in
        let same : spot.0 ≡ p ∷ [] = same_context M P one spot.0 x spot.1 [] p tt s.listed.is named in
        let is : IsSpot M P (p ∷ []) x = subst (λ c. IsSpot M P c x) same spot.1 in
        record {
          visit = v;
          at = at;
          context = p ∷ [];
          is = is;
          piece = p;
          whole = [];
          walks = Start p s.listed.is phase refl refl;
          begins = subst (λ i. BeginsAt M p i a) begun.step s.begins;
          spells = ap (λ l. l ++ []) (visit_steps k v at [] p is);
        }

    -- an arc from the context of what was driven leads to the one of the visit at place k
    driven_arc : (js : List ℕ) (j : ℕ) → (d : Driven js j) → (k : ℕ) (v : TreeVisit) → slice_get visits k ≡ Some v
        → Contains L (at_of v.spot) → (arc : TurnArc) → Contains d.visit.spot.context.now.arcs arc
        → key_of (at_of v.spot) ≡ target_key (at_of d.visit.spot) arc
        → F.go d.visit.phase v.spot.piece.now.zone ≡ Some v.phase → Driven (js ++ k ∷ []) k
    driven_arc js j d k v at listed arc has leads on =
        let from = at_of d.visit.spot in
        let r = arc_of M P d.context from d.is arc has in
        let t = arc_target M P d.context from d.is arc r in
        let y = at_of v.spot in
        let spot = are.sound y listed in
        let named : key_of y ≡ (name_of r.piece, map name_of t.before)
        = leads ∙ (λ i. (r.named i, t.names i)) in
        let same : spot.0 ≡ t.before ++ r.piece ∷ []
        = same_context M P one spot.0 y spot.1 t.before r.piece t.pieces r.arc.by named in
        let is : IsSpot M P (t.before ++ r.piece ∷ []) y = subst (λ c. IsSpot M P c y) same spot.1 in
        let goes : IsArc M P d.context r.piece (t.before ++ r.piece ∷ [])
        = subst (λ c. IsArc M P d.context r.piece c) t.is r.arc in
        let steps = visit_steps k v at t.before r.piece is in
        let phase : F.go d.visit.phase (mark_of M P r.piece) ≡ Some v.phase
        = ap (F.go d.visit.phase) (sym (spot_marked M P t.before r.piece y is)) ∙ on in
        record {
          visit = v;
          at = at;
          context = t.before ++ r.piece ∷ [];
          is = is;
          piece = d.piece;
          whole = d.whole ++ r.piece ∷ [];
          walks = Go (d.piece ∷ d.whole) d.context d.visit.phase r.piece d.walks goes phase refl;
          begins = d.begins;
          spells = flat_map-append (steps_at visits) js (k ∷ [])
              ∙ ap (λ l. l ++ (steps_at visits k ++ [])) d.spells
              ∙ ap (λ l. spell_pieces (d.piece ∷ d.whole) ++ l) (append-nil (steps_at visits k) ∙ steps)
              ∙ sym (spell_pieces-push (d.piece ∷ d.whole) r.piece);
        }

    driven_more : (js : List ℕ) (j : ℕ) → (d : Driven js j) → (k : ℕ) (v : TreeVisit) → slice_get visits k ≡ Some v
        → Contains L (at_of v.spot) → Comes F visits j v.spot v.phase → Driven (js ++ k ∷ []) k
    driven_more js j d k v at listed c =
        let same : c.before ≡ d.visit = one_stands visits j c.before d.visit c.at d.at in
        driven_arc js j d k v at listed c.arc
        (subst (λ (w : TreeVisit). Contains w.spot.context.now.arcs c.arc) same c.has)
        (subst (λ (w : TreeVisit). key_of (at_of v.spot) ≡ target_key (at_of w.spot) c.arc) same c.leads)
        (subst (λ (w : TreeVisit). F.go w.phase v.spot.piece.now.zone ≡ Some v.phase) same c.goes)

    module _ (m : Marks) (same : m.visits ≡ visits) (starts : List Begin) (start : AreStarts M P a starts)
        (search : IsSearch F L m) (begun : AreBegun F starts m) where
      stood : (k : ℕ) (v : TreeVisit) → slice_get visits k ≡ Some v → slice_get m.visits k ≡ Some v
      stood k v e = subst (λ (l : List TreeVisit). slice_get l k ≡ Some v) (sym same) e

      comes : (k j : ℕ) (v : TreeVisit) → slice_get visits k ≡ Some v → v.origin ≡ Follows j
          → Comes F visits j v.spot v.phase
      comes k j v e o = subst (λ (l : List TreeVisit). Comes F l j v.spot v.phase) same
          (search.comes k j v (stood k v e) o).1

      pub driven : {ks : List ℕ} {k : ℕ} → IsChain visits first ks k → Driven ks k
      driven (One k v e o is) = subst (λ l. Driven l k) (sym is)
          (driven_one starts start k v e (search.listed k v (stood k v e)) (begun k first v (stood k v e) o))
      driven (More js j k v chain e o is) = subst (λ l. Driven l k) (sym is)
          (driven_more js j (driven chain) k v e (search.listed k v (stood k v e)) (comes k j v e o))

  module _ (one : OnePiece M P) (b : NodeId) (goals : BTreeMap PieceName Goal) (are : AreGoals M P b goals)
      (places : List ℕ) (place : ℕ) (goal : Goal) (d : Driven places place)
    where
      -- from the context of what was driven an arc leads to the goal, and the phase goes on by it
      led_by : (arc : TurnArc) → Contains d.visit.spot.context.now.arcs arc → (to : IsGoalAt M P b arc.piece goal)
          → (next : ℕ) → F.go d.visit.phase goal.piece.now.zone ≡ Some next → (route : List Step)
          → route ≡ along_pieces d.piece first d.whole to.listed.piece goal.last → LeadsIn M P F a b route
      led_by arc has to next on route is =
          let r = arc_of M P d.context (at_of d.visit.spot) d.is arc has in
          let q = to.listed.piece in
          let same : r.piece ≡ q = one r.piece q r.arc.by to.listed.is
          (sym r.named ∙ sym to.named ∙ to.listed.named) in
          let goes = subst (λ t. IsArc M P d.context t r.target) same r.arc in
          let phase : F.go d.visit.phase (mark_of M P q) ≡ Some next
          = ap (F.go d.visit.phase) (sym (entry_marked M P to.way goal.piece.now to.listed)) ∙ on in
          OnMany d.piece first d.whole d.context d.visit.phase q goal.last r.target next d.walks goes phase d.begins
          to.stops is

      route_is : (to : List Step) → drop first (flat_map (steps_at visits) places ++ to)
          ≡ drop first (spell d.piece) ++ (spell_pieces d.whole ++ to)
      route_is to = ap (λ l. drop first (l ++ to)) d.spells
          ∙ drop_first (spell d.piece) (spell_pieces d.whole) to first
          (slice_get_within (spell d.piece) first d.begins.step d.begins.at)

      pub led_along : Meets F goals visits place goal → (route : List Step)
          → route ≡ drop first (flat_map (steps_at visits) places ++ take (goal.last + 1) (spelled goal.piece.now))
          → LeadsIn M P F a b route
      led_along met route is =
          let same : met.visit ≡ d.visit = one_stands visits place met.visit d.visit met.at d.at in
          let has = subst (λ (w : TreeVisit). Contains w.spot.context.now.arcs met.arc) same met.has in
          let on = subst (λ (w : TreeVisit). F.go w.phase goal.piece.now.zone ≡ Some met.next) same met.goes in
          let to = are.sound met.arc.piece goal met.met in
          let last = ap (take (goal.last + 1)) (entry_spells M P to.way goal.piece.now to.listed) in
          led_by met.arc has to met.next on route
          (is ∙ route_is (take (goal.last + 1) (spelled goal.piece.now))
          ∙ ap (λ l. drop first (spell d.piece) ++ (spell_pieces d.whole ++ l)) last)
