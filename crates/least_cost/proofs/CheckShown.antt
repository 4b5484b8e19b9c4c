-- What holds everywhere of the numbers of a list certifies the cost, and the other way round.
use Rattle.std.proofs.Common.{◌≡◌, ℕ, ◌+◌, ◌-◌, ◌≤◌, List, [], ◌∷◌, ◌++◌, length, map, Option, Some, slice_get}
use Rattle.std.proofs.Common.{Contains, IsTrue, IsFalse, Bool, true, false, take, drop, refl, sym, ap, ◌∙◌, subst}
use Rattle.std.proofs.Common.{arith}
use Rattle.std.specs.Cmp.{IsTotalOrder}
use Rattle.std.specs.FinMap.{IsAntisymmetric}
use Rattle.std.proofs.lemmas.Option.{slice_get_within}
use Rattle.std.proofs.lemmas.List.{length-map, map-append, map-id}
use Rattle.road_base.specs.declared.ids.NodeId.{NodeId}
use Rattle.road_base.specs.Objects.{Objects}
use Rattle.ordered_lists.specs.Orders.{Lists, rises}
use Rattle.ordered_lists.proofs.Splits.{same_last}
use Rattle.ordered_lists.proofs.ListMembers.{contains_map, contains_from_map}
use Rattle.ordered_lists.proofs.ListPlaces.{some_at, one_stands, contains_at, at_contains}
use Rattle.ordered_lists.proofs.AscendingLists.{lists_unique}
use Rattle.road_model.specs.declared.lists.PieceName.{PieceName}
use Rattle.road_model.specs.declared.lists.TurnArc.{TurnArc}
use Rattle.road_model.specs.Rules.{Rules}
use Rattle.road_model.specs.Pieces.{Span, IsPiece, spell}
use Rattle.road_model.specs.Contexts.{One}
use Rattle.road_model.specs.Network.{IsContext, IsArc}
use Rattle.road_model.specs.Blocks.{IsArcEntry, name_of}
use Rattle.road_model.specs.Orders.{name_cmp, names_cmp}
use Rattle.road_model.proofs.WalkLists.{context_pieces}
use Rattle.road_model.proofs.SomeGraph.{names_tell}
use Rattle.context_search.specs.Marks.{At, key_of, key_cmp, names_behind}
use Rattle.context_search.specs.Searching.{BeginsAt, StopsAt, within_piece}
use Rattle.context_search.specs.Sought.{IsSpot, AreSpots}
use Rattle.context_search.proofs.SearchKeys.{key_total}
use Rattle.least_cost.proofs.CheckSpots.{map_at}
use Rattle.context_search.proofs.SearchTargets.{spot_named, arc_of, arc_target}
use Rattle.least_cost.specs.Costs.{cost_of, plus}
use Rattle.least_cost.specs.PlaceCosts.{places_cost}
use Rattle.least_cost.specs.Certified.{AtMost, IsCertified}
use Rattle.least_cost.specs.Shown.{number_at, number_in, HoldsAtStarts, HoldsOver, HoldsOnArc}
use Rattle.least_cost.specs.Shown.{HoldsEverywhere}
use Rattle.least_cost.proofs.CheckNumbers.{names_of, number_for, number_found, spot_names}
use Rattle.least_cost.proofs.CheckWritten.{IsWritten, is_written}

abbrev Key : Type 0
Key = PieceName × List PieceName

none_mapped : {A B : Type 0} (f : A → B) (xs : List A) → map f xs ≡ [] → xs ≡ []
none_mapped f [] e = refl
none_mapped f (x ∷ xs) e = cc

module _ (M : Objects) (P : Rules) where
  -- the last piece of a context is written so
  ends_written : (b : List Span) (p : Span) (x : At) → IsSpot M P (b ++ p ∷ []) x → IsWritten M p x.piece.places
  ends_written b p x s =
      let l = same_last b p s.entry.before s.listed.piece s.is in
      subst (λ q. IsWritten M q x.piece.places) (sym l.last) (is_written M P s.way x.piece s.listed)

  is_context : (c : List Span) (x : At) → IsSpot M P c x → IsContext M P c
  is_context c x s = subst (λ l. IsContext M P l) (sym s.is) s.entry.context

  -- the arc as it is written
  record Written (c : List Span) (x : At) (t : Span) (e : List Span) : Type 0 where
    arc : TurnArc
    has : Contains x.context.arcs arc
    named : arc.piece ≡ name_of t
    entry : IsArcEntry M P c arc
    by : entry.piece ≡ t
    to : entry.target ≡ e

  arc_written : (c : List Span) (x : At) (t : Span) (e : List Span) → IsSpot M P c x → IsArc M P c t e
      → Written c x t e
  arc_written c x t e s a =
      let arc : TurnArc = record { piece = name_of t; length = length e } in
      let r : IsArcEntry M P c arc = record { piece = t; target = e; arc = a; named = refl; length_is = refl } in
      let has = s.entry.arcs.complete arc (subst (λ l. IsArcEntry M P l arc) s.is r) in
      record { arc = arc; has = has; named = refl; entry = r; by = refl; to = refl }

  module _ (names : IsTotalOrder name_cmp) (lists : IsTotalOrder names_cmp) (ties : IsAntisymmetric names_cmp)
      (a b : NodeId) (C : Option ℕ)
      (L : List At) (are : AreSpots M P L) (list : List (Option ℕ)) where
    -- ---- what holds everywhere certifies

    module _ (count : length list ≡ length L) (holds : HoldsEverywhere L list a b C) where
      pi : List Span → Option ℕ
      pi c = number_for L list (map name_of c)

      pi_at : (n : ℕ) (x : At) (c : List Span) → slice_get L n ≡ Some x → IsSpot M P c x → number_at list n ≡ pi c
      unfolding pi
      pi_at n x c at s = sym (number_found names lists ties L list are.up count n x at)
          ∙ ap (number_for L list) (sym (spot_names M P c x s))

      alone : (p : Span) → IsPiece M P p → (x : At) × (n : ℕ) × (slice_get L n ≡ Some x) × IsSpot M P (p ∷ []) x
      alone p is =
          let y = are.complete (p ∷ []) (One p refl is) in
          let n = at_contains L y.0 y.1 in
          (y.0, n.0, n.1, y.2)

      starts : (p : Span) (is : IsPiece M P p) (x : At) (n : ℕ) → slice_get L n ≡ Some x → IsSpot M P (p ∷ []) x
          → HoldsAtStarts a b C (pi (p ∷ [])) x.piece.places
      starts p is x n at s =
          let k = spot_named M P [] p x s in
          subst (λ v. HoldsAtStarts a b C v x.piece.places) (pi_at n x (p ∷ []) at s)
          ((holds n x at).starts (ap (λ z. z.1) k))

      begins : (p : Span) (j : ℕ) → IsPiece M P p → BeginsAt M p j a
          → AtMost (pi (p ∷ [])) (cost_of M (drop j (spell p)))
      begins p j is at =
          let y = alone p is in
          let w = ends_written [] p y.0 y.3 in
          let by = w.begins_by j a at in
          subst (λ v. AtMost (pi (p ∷ [])) v) (sym (w.from j a by))
          ((starts p is y.0 y.1 y.2 y.3).leaves j by)

      within : (p : Span) (i j : ℕ) → IsPiece M P p → BeginsAt M p i a → StopsAt M p j b → i ≤ j
          → AtMost C (cost_of M (within_piece p i j))
      within p i j is at to h =
          let y = alone p is in
          let w = ends_written [] p y.0 y.3 in
          let stops = w.stops_by j b to in
          subst (λ v. AtMost C v) (sym (w.within i j b h stops))
          ((starts p is y.0 y.1 y.2 y.3).within i j (w.begins_by i a at) stops h)

      record Over (c : List Span) (t : Span) (e : List Span) : Type 0 where
        to : At
        written : IsWritten M t to.piece.places
        over : HoldsOver b C (pi c) (pi e) to.piece.places

      over_arc : (c : List Span) (t : Span) (e : List Span) → IsArc M P c t e → Over c t e
      over_arc c t e arc =
          let x = are.complete c arc.from in
          let n = at_contains L x.0 x.1 in
          let w = arc_written c x.0 t e x.2 arc in
          let r : IsArcEntry M P c w.arc = record {
            piece = t;
            target = e;
            arc = arc;
            named = w.named;
            length_is = w.entry.length_is ∙ ap length w.to;
          } in
          let g = arc_target M P c x.0 x.2 w.arc r in
          let y = are.complete e arc.to.holds in
          let m = at_contains L y.0 y.1 in
          let s : IsSpot M P (g.before ++ t ∷ []) y.0 = subst (λ l. IsSpot M P l y.0) g.is y.2 in
          let k = spot_named M P g.before t y.0 s in
          let key : key_of y.0 ≡ (w.arc.piece, names_behind x.0 (w.arc.length - 1))
          = k ∙ (λ i. (sym w.named i, sym g.names i)) in
          let h = (holds n.0 x.0 n.1).arcs w.arc w.has m.0 y.0 m.1 key in
          record {
            to = y.0;
            written = ends_written g.before t y.0 s;
            over = subst (λ v. HoldsOver b C v (pi e) y.0.piece.places) (pi_at n.0 x.0 c n.1 x.2)
                (subst (λ v. HoldsOver b C (number_at list n.0) v y.0.piece.places) (pi_at m.0 y.0 e m.1 y.2) h);
          }

      goes_on : (c : List Span) (t : Span) (e : List Span) → IsArc M P c t e
          → AtMost (pi e) (plus (pi c) (cost_of M (spell t)))
      goes_on c t e arc =
          let o = over_arc c t e arc in
          subst (λ v. AtMost (pi e) (plus (pi c) v)) (sym o.written.whole) o.over.goes_on

      ends : (c : List Span) (t : Span) (e : List Span) (j : ℕ) → IsArc M P c t e → StopsAt M t j b
          → AtMost C (plus (pi c) (cost_of M (take (j + 1) (spell t))))
      ends c t e j arc at =
          let o = over_arc c t e arc in
          let stops = o.written.stops_by j b at in
          subst (λ v. AtMost C (plus (pi c) v)) (sym (o.written.up_to j b stops)) (o.over.ends j stops)

      pub certifies : IsCertified M P a b C list
      certifies = record {
        at = pi;
        agrees = record {
          contexts = L;
          are = are;
          count = count;
          entries = λ n x c at s.
              let h = slice_get_within L n x at in
              let v = some_at list n (omega arith) in
              let e : number_at list n ≡ v.0 = ap number_in v.1 in
              v.1 ∙ ap Some (sym e ∙ pi_at n x c at s);
        };
        shows = record { begins = begins; goes_on = goes_on; ends = ends; within = within };
      }

    -- ---- what is certified holds everywhere

    abbrev IsKey : Key → Type 0
    IsKey k = (c : List Span) × IsContext M P c × (map name_of c ≡ k.1 ++ k.0 ∷ [])

    listed_keys : (K : List At) → AreSpots M P K → Lists (λ (k : Key). k) key_cmp IsKey (map key_of K)
    listed_keys K spots = record {
      ascending = subst (λ l. IsTrue (rises key_cmp l)) (sym (map-id (map key_of K))) spots.up;
      sound = λ k has.
          let x = contains_from_map key_of K k has in
          let s = spots.sound x.0 x.1 in
          (s.0, is_context s.0 x.0 s.1, spot_names M P s.0 x.0 s.1 ∙ (λ i. (sym x.2 i).1 ++ (sym x.2 i).0 ∷ []));
      complete = λ k is.
          let x = spots.complete is.0 is.1 in
          let l = same_last x.0.context.before x.0.piece.name k.1 k.0 (sym (spot_names M P is.0 x.0 x.2) ∙ is.2) in
          let e : key_of x.0 ≡ k = λ i. (l.last i, l.front i) in
          subst (λ z. Contains (map key_of K) z) e (contains_map key_of K x.0 x.1);
    }

    same_keys : (K : List At) → AreSpots M P K → map key_of K ≡ map key_of L
    same_keys K spots = lists_unique (λ (k : Key). k) key_cmp (key_total names lists) IsKey (map key_of K)
        (map key_of L) (listed_keys K spots) (listed_keys L are)

    -- contexts of the same names are one
    one_context : (c d : List Span) (x y : At) → IsSpot M P c x → IsSpot M P d y → key_of x ≡ key_of y → c ≡ d
    one_context c d x y s t e = names_tell M P c d (context_pieces M P c (is_context c x s))
        (context_pieces M P d (is_context d y t))
        (spot_names M P c x s ∙ (λ i. (e i).1 ++ (e i).0 ∷ []) ∙ sym (spot_names M P d y t))

    module _ (cert : IsCertified M P a b C list) where
      at : List Span → Option ℕ
      at = cert.at

      pub counted : length list ≡ length L
      counted =
          let g = cert.agrees in
          let e = ap length (same_keys g.contexts g.are) in
          let f = length-map g.contexts key_of in
          let h = length-map L key_of in
          let k = g.count in
          omega arith

      number_is : (n : ℕ) (x : At) (c : List Span) → slice_get L n ≡ Some x → IsSpot M P c x → number_at list n ≡ at c
      unfolding at
      number_is n x c at_x s =
          let g = cert.agrees in
          let K = g.contexts in
          let h = slice_get_within L n x at_x in
          let same = counted in
          let count = g.count in
          let y = some_at K n (omega arith) in
          let t = g.are.sound y.0 (contains_at K n y.0 y.1) in
          let here : slice_get (map key_of L) n ≡ Some (key_of y.0)
          = ap (λ l. slice_get l n) (sym (same_keys K g.are)) ∙ map_at key_of K n y.0 y.1 in
          let e : key_of y.0 ≡ key_of x
          = one_stands (map key_of L) n (key_of y.0) (key_of x) here (map_at key_of L n x at_x) in
          ap number_in (g.entries n y.0 t.0 y.1 t.1) ∙ ap cert.at (one_context t.0 c y.0 x t.1 s e)

      starts_hold : (n : ℕ) (x : At) (c : List Span) → slice_get L n ≡ Some x → IsSpot M P c x
          → x.context.before ≡ [] → HoldsAtStarts a b C (number_at list n) x.piece.places
      unfolding at
      starts_hold n x c at_x s none =
          let p = s.listed.piece in
          let w = is_written M P s.way x.piece s.listed in
          let first : s.entry.before ≡ [] = none_mapped name_of s.entry.before (sym s.entry.named ∙ none) in
          let alone : c ≡ p ∷ [] = s.is ∙ ap (λ l. l ++ p ∷ []) first in
          let v : cert.at (p ∷ []) ≡ number_at list n = sym (number_is n x c at_x s ∙ ap cert.at alone) in
          record {
            leaves = λ i begins. subst (λ u. AtMost u (Some (places_cost (drop i x.piece.places)))) v
                (subst (λ u. AtMost (cert.at (p ∷ [])) u) (w.from i a begins)
                (cert.shows.begins p i s.listed.is (w.begins_at i a begins)));
            within = λ i j begins stops h. subst (λ u. AtMost C u) (w.within i j b h stops)
                (cert.shows.within p i j s.listed.is (w.begins_at i a begins) (w.stops_at j b stops) h);
          }

      over_hold : (n : ℕ) (x : At) (c : List Span) → slice_get L n ≡ Some x → IsSpot M P c x → (arc : TurnArc)
          → Contains x.context.arcs arc → HoldsOnArc L list b C n x arc
      unfolding at
      over_hold n x c at_x s arc has m to at_to key =
          let r = arc_of M P c x s arc has in
          let t = arc_target M P c x s arc r in
          let y = are.sound to (contains_at L m to at_to) in
          let d = y.0 in
          let target : map name_of r.target ≡ map name_of t.before ++ name_of r.piece ∷ []
          = ap (map name_of) t.is ∙ map-append name_of t.before (r.piece ∷ []) in
          let named : names_of to ≡ map name_of t.before ++ name_of r.piece ∷ []
          = (λ i. (key i).1 ++ (key i).0 ∷ []) ∙ (λ i. t.names i ++ r.named i ∷ []) in
          let same : d ≡ r.target = names_tell M P d r.target (context_pieces M P d (is_context d to y.1))
          (context_pieces M P r.target r.arc.to.holds) (spot_names M P d to y.1 ∙ named ∙ sym target) in
          let u = subst (λ l. IsSpot M P l to) (same ∙ t.is) y.1 in
          let w = ends_written t.before r.piece to u in
          let from : cert.at c ≡ number_at list n = sym (number_is n x c at_x s) in
          let to_at : cert.at r.target ≡ number_at list m = sym (number_is m to d at_to y.1 ∙ ap cert.at same) in
          let over : HoldsOver b C (cert.at c) (cert.at r.target) to.piece.places = record {
            goes_on = subst (λ v. AtMost (cert.at r.target) (plus (cert.at c) v)) w.whole
                (cert.shows.goes_on c r.piece r.target r.arc);
            ends = λ j stops. subst (λ v. AtMost C (plus (cert.at c) v)) (w.up_to j b stops)
                (cert.shows.ends c r.piece r.target j r.arc (w.stops_at j b stops));
          } in
          subst (λ v. HoldsOver b C (number_at list n) v to.piece.places) to_at
          (subst (λ v. HoldsOver b C v (cert.at r.target) to.piece.places) from over)

      pub everywhere : HoldsEverywhere L list a b C
      everywhere n x at_x =
          let s = are.sound x (contains_at L n x at_x) in
          record { starts = starts_hold n x s.0 at_x s.1; arcs = over_hold n x s.0 at_x s.1 }

-- what isn't refused is so
pub not_refused : (b : Bool) → (IsFalse b → ⊥) → IsTrue b
not_refused true h = refl
not_refused false h = absurd (h refl)
