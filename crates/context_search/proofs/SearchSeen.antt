-- Where a search has gone on from all that it visited and met nothing, no walk in its phases leads from the starts to
-- the goals.
use Rattle.std.proofs.Common.{◌≡◌, ℕ, ◌≤◌, List, [], ◌∷◌, ◌++◌, length, map, Some, None, slice_get}
use Rattle.std.proofs.Common.{Contains, refl, sym, ◌∙◌, ap, subst, arith}
use Rattle.std.specs.BTreeMap.{BTreeMap}
use Rattle.road_base.specs.declared.ids.NodeId.{NodeId}
use Rattle.road_base.specs.declared.ids.Step.{Step}
use Rattle.road_base.specs.Objects.{Objects}
use Rattle.road_model.specs.declared.lists.PieceName.{PieceName}
use Rattle.road_model.specs.declared.lists.TurnArc.{TurnArc}
use Rattle.road_model.specs.Rules.{Rules}
use Rattle.road_model.specs.Pieces.{Span, IsPiece}
use Rattle.road_model.specs.Contexts.{Every}
use Rattle.road_model.specs.Network.{IsArc}
use Rattle.road_model.specs.Blocks.{IsArcEntry, name_of}
use Rattle.road_model.specs.Naming.{OnePiece}
use Rattle.context_search.specs.declared.ends.Begin.{Begin}
use Rattle.context_search.specs.declared.ends.Goal.{Goal}
use Rattle.context_search.specs.declared.marks.TreeVisit.{TreeVisit}
use Rattle.context_search.specs.Marks.{At, at_of, key_of}
use Rattle.context_search.specs.Phases.{PhaseRules}
use Rattle.context_search.specs.PhaseWalks.{WalksIn, Start, Go, LeadsIn, InOne, OnMany, mark_of}
use Rattle.context_search.specs.Searching.{BeginsAt, StopsAt}
use Rattle.context_search.specs.Sought.{IsSpot, AreSpots, AreStarts, AreGoals}
use Rattle.context_search.specs.Visits.{goal_in, first_key, IsVisited, IsClosed, Misses, IsVisitedBy}
use Rattle.context_search.proofs.SearchTargets.{arc_target, same_context, entry_marked, spot_marked}

module _ (M : Objects) (P : Rules) (F : PhaseRules) where
  walk_some : (d c : List Span) (f : ℕ) → WalksIn M P F d c f → d ≡ [] → ⊥
  walk_some d c f (Start p is phase e g) h = let k : p ∷ [] ≡ [] = sym e ∙ h in cc
  walk_some d c f (Go [] b g t w arc on e) h = let k : t ∷ [] ≡ [] = sym e ∙ h in cc
  walk_some d c f (Go (q ∷ o) b g t w arc on e) h = let k : q ∷ (o ++ t ∷ []) ≡ [] = sym e ∙ h in cc

module _ (M : Objects) (P : Rules) (F : PhaseRules) (L : List At) (one : OnePiece M P) (are : AreSpots M P L)
    (a b : NodeId) (starts : List Begin) (goals : BTreeMap PieceName Goal) (visits : List TreeVisit)
    (from : AreStarts M P a starts) (to : AreGoals M P b goals)
    (listed : (k : ℕ) (v : TreeVisit) → slice_get visits k ≡ Some v → Contains L (at_of v.spot))
  where
    -- the context is visited in the phase
    record Reached (c : List Span) (f : ℕ) : Type 0 where
      visit : TreeVisit
      place : ℕ
      at : slice_get visits place ≡ Some visit
      is : IsSpot M P c (at_of visit.spot)
      phase : visit.phase ≡ f

    -- the context of these pieces is visited
    seen_at : (before : List Span) (q : Span) (f : ℕ) → Every (IsPiece M P) before → IsPiece M P q
        → IsVisited visits ((name_of q, map name_of before), f) → Reached (before ++ q ∷ []) f
    seen_at before q f pieces piece v =
        let x = at_of v.visit.spot in
        let l = are.sound x (listed v.place v.visit v.at) in
        let same = same_context M P one l.0 x l.1 before q pieces piece (ap (λ k. k.0) v.named) in
        record {
          visit = v.visit;
          place = v.place;
          at = v.at;
          is = subst (λ c. IsSpot M P c x) same l.1;
          phase = ap (λ k. k.1) v.named;
        }

    seen_start : ((s : Begin) → Contains starts s → IsVisited visits (first_key F s)) → (p : Span) (i : ℕ)
        → IsPiece M P p → BeginsAt M p i a → Reached (p ∷ []) (F.start (mark_of M P p))
    seen_start started p i is begins =
        let s = from.complete p i is begins in
        let l = (from.sound s.0 s.1).listed in
        let same : l.piece ≡ p = one l.piece p l.is is (sym l.named ∙ s.2) in
        let mark : s.0.piece.now.zone ≡ mark_of M P p
        = entry_marked M P (from.sound s.0 s.1).way s.0.piece.now l ∙ ap (mark_of M P) same in
        let key : first_key F s.0 ≡ ((name_of p, []), F.start (mark_of M P p))
        = λ i. ((s.2 i, []), F.start (mark i)) in
        seen_at [] p (F.start (mark_of M P p)) tt is (subst (IsVisited visits) key (started s.0 s.1))

    apart : ((s : Begin) (g : Goal) → Contains starts s → goal_in goals s.piece.now.name ≡ Some g
        → s.first ≤ g.last → ⊥) → (p : Span) (i j : ℕ) → IsPiece M P p → BeginsAt M p i a → StopsAt M p j b → i ≤ j
        → ⊥
    apart none p i j is begins stops h =
        let s = from.complete p i is begins in
        let g = to.complete p j is stops in
        let l = s.3 in
        let k = g.2 in
        none s.0 g.0 s.1 (ap (goal_in goals) s.2 ∙ g.1) (omega arith)

    module _ (closed : (k : ℕ) (v : TreeVisit) → slice_get visits k ≡ Some v → IsClosed F L goals visits v) where
      -- the phase goes on to no goal by the arc from a context that is visited, and its target is visited
      record Followed (c : List Span) (f : ℕ) (t : Span) (e : List Span) : Type 0 where
        spot : At
        is : IsSpot M P c spot
        arc : TurnArc
        entry : IsArcEntry M P c arc
        piece : entry.piece ≡ t
        target : entry.target ≡ e
        named : arc.piece ≡ name_of t
        misses : Misses F goals f arc
        passed : IsVisitedBy F L visits spot f arc

      followed : (c : List Span) (f : ℕ) (t : Span) (e : List Span) → Reached c f → IsArc M P c t e → Followed c f t e
      followed c f t e r goes =
          let arc : TurnArc = record { piece = name_of t; length = length e } in
          let n : IsArcEntry M P c arc
          = record { piece = t; target = e; arc = goes; named = refl; length_is = refl } in
          let here : IsArcEntry M P (r.is.entry.before ++ r.is.listed.piece ∷ []) arc
          = subst (λ d. IsArcEntry M P d arc) r.is.is n in
          let has = r.is.entry.arcs.complete arc here in
          let o = closed r.place r.visit r.at arc has in
          let spot = at_of r.visit.spot in
          record {
            spot = spot;
            is = r.is;
            arc = arc;
            entry = n;
            piece = refl;
            target = refl;
            named = refl;
            misses = subst (λ (g : ℕ). Misses F goals g arc) r.phase o.0;
            passed = subst (λ (g : ℕ). IsVisitedBy F L visits spot g arc) r.phase o.1;
          }

      goes_on : (c : List Span) (f : ℕ) (t : Span) (e : List Span) (g : ℕ) → Reached c f → IsArc M P c t e
          → F.go f (mark_of M P t) ≡ Some g → Reached e g
      goes_on c f t e g r goes on =
          let o = followed c f t e r goes in
          let u = arc_target M P c o.spot o.is o.arc o.entry in
          let q = o.entry.piece in
          let y = o.passed.target in
          let named : key_of y ≡ (name_of q, map name_of u.before)
          = o.passed.named ∙ (λ i. (o.entry.named i, u.names i)) in
          let l = are.sound y o.passed.listed in
          let same = same_context M P one l.0 y l.1 u.before q u.pieces o.entry.arc.by named in
          let mark : y.piece.zone ≡ mark_of M P t
          = spot_marked M P u.before q y (subst (λ d. IsSpot M P d y) same l.1) ∙ ap (mark_of M P) o.piece in
          let v = o.passed.visited g (ap (F.go f) mark ∙ on) in
          let key : (key_of y, g) ≡ ((name_of q, map name_of u.before), g) = λ i. (named i, g) in
          subst (λ (d : List Span). Reached d g) (sym u.is ∙ o.target)
          (seen_at u.before q g u.pieces o.entry.arc.by (subst (IsVisited visits) key v))

      misses : (c : List Span) (f : ℕ) (t : Span) (e : List Span) (g j : ℕ) → Reached c f → IsArc M P c t e
          → F.go f (mark_of M P t) ≡ Some g → StopsAt M t j b → ⊥
      misses c f t e g j r goes on stops =
          let o = followed c f t e r goes in
          let h = to.complete t j goes.by stops in
          let s = to.sound (name_of t) h.0 h.1 in
          let same : s.listed.piece ≡ t = one s.listed.piece t s.listed.is goes.by (sym s.listed.named ∙ s.named) in
          let mark : h.0.piece.now.zone ≡ mark_of M P t
          = entry_marked M P s.way h.0.piece.now s.listed ∙ ap (mark_of M P) same in
          let none : F.go f h.0.piece.now.zone ≡ None = o.misses h.0 (ap (goal_in goals) o.named ∙ h.1) in
          let both : None ≡ Some g = sym none ∙ ap (F.go f) mark ∙ on in
          cc

      module _ (started : (s : Begin) → Contains starts s → IsVisited visits (first_key F s)) where
        -- the context of a walk from the node is visited in the walk's phase
        reached : (d c : List Span) (f : ℕ) → WalksIn M P F d c f → (q : Span) (o : List Span) → d ≡ q ∷ o → (k : ℕ)
            → BeginsAt M q k a → Reached c f
        reached d c f (Start p is phase e g) q o h k begins =
            let same : q ≡ p = cc (e, h) in
            let r = seen_start started p k is (subst (λ v. BeginsAt M v k a) same begins) in
            subst (λ (l : List Span). Reached l f) (sym g)
            (subst (λ (n : ℕ). Reached (p ∷ []) n) (sym phase) r)
        reached d c f (Go [] l n t w arc on e) q o h k begins = absurd (walk_some M P F [] l n w refl)
        reached d c f (Go (r ∷ m) l n t w arc on e) q o h k begins =
            let same : q ≡ r = cc (e, h) in
            goes_on l n t c f
            (reached (r ∷ m) l n w r m refl k (subst (λ v. BeginsAt M v k a) same begins)) arc on

        pub none_leads : ((s : Begin) (g : Goal) → Contains starts s → goal_in goals s.piece.now.name ≡ Some g
            → s.first ≤ g.last → ⊥) → (d : List Step) → LeadsIn M P F a b d → ⊥
        none_leads none d (InOne p i j is begins stops up e) = apart none p i j is begins stops up
        none_leads none d (OnMany p i whole c f t j e g w arc on begins stops is) =
            misses c f t e g j (reached (p ∷ whole) c f w p whole refl i begins) arc on stops
