-- Contexts with their numbers and the costs of their last pieces, by their places.
use Rattle.std.proofs.Common.{◌≡◌, ℕ, zero, suc, ◌<◌, List, [], ◌∷◌, length, map, Option, Some}
use Rattle.std.proofs.Common.{slice_get, get_or, IsTrue, inl, inr, refl, sym, ap, ◌∙◌, subst, arith}
use Rattle.std.specs.Ordering.{is_lt}
use Rattle.std.specs.Cmp.{IsTotalOrder}
use Rattle.std.proofs.lemmas.Bool.{cases_lt}
use Rattle.std.proofs.lemmas.List.{length-map}
use Rattle.road_base.specs.declared.ids.NodeId.{NodeId}
use Rattle.ordered_lists.proofs.ListMembers.{in_at}
use Rattle.ordered_lists.proofs.ListPlaces.{one_stands}
use Rattle.ordered_lists.proofs.Comparisons.{not_itself}
use Rattle.ordered_lists.proofs.AscendingLists.{Climbs, climbs}
use Rattle.road_model.specs.declared.lists.Place.{Place}
use Rattle.road_model.specs.declared.lists.TurnArc.{TurnArc}
use Rattle.road_model.specs.Orders.{name_cmp, names_cmp}
use Rattle.context_search.specs.declared.spots.Spot.{Spot}
use Rattle.context_search.specs.Marks.{At, at_of, key_of, key_cmp}
use Rattle.least_cost.specs.Shown.{LeadsBy}
use Rattle.context_search.proofs.SearchKeys.{key_total}
use Rattle.least_cost.proofs.CheckSpots.{map_at, spot_read}
use Rattle.least_cost.specs.Costs.{plus}
use Rattle.least_cost.specs.Certified.{AtMost}
use Rattle.least_cost.specs.Shown.{number_at, number_in, piece_cost, AreNumbered, HoldsAtEnds, HoldsOver, HoldsOnArc}
use Rattle.least_cost.specs.Shown.{HoldsAtStarts}

module _ (spots : List Spot) (list : List (Option ℕ)) (costs : List ℕ)
    (table : AreNumbered (map at_of spots) list costs) where
  pub numbers_count : length list ≡ length spots
  numbers_count = table.count ∙ length-map spots at_of

  pub costs_count : length costs ≡ length spots
  costs_count = ap length table.sums ∙ length-map (map at_of spots) piece_cost ∙ length-map spots at_of

  sum_is : (n k : ℕ) (x : At) → slice_get (map at_of spots) n ≡ Some x → slice_get costs n ≡ Some k
      → k ≡ piece_cost x
  sum_is n k x at e = one_stands (map piece_cost (map at_of spots)) n k (piece_cost x)
      (ap (λ l. slice_get l n) (sym table.sums) ∙ e) (map_at piece_cost (map at_of spots) n x at)

  module _ (names : IsTotalOrder name_cmp) (lists : IsTotalOrder names_cmp) where
    below_at : (L : List At) → Climbs key_of key_cmp (key_total names lists) L → (m n : ℕ) (y z : At) → m < n
        → slice_get L m ≡ Some y → slice_get L n ≡ Some z → IsTrue (is_lt (key_cmp (key_of y) (key_of z)))
    below_at [] up m n y z h at_y at_z = cc
    below_at (x ∷ L) up zero zero y z h at_y at_z = absurd (omega arith)
    below_at (x ∷ L) up zero (suc n) y z h at_y at_z =
        let e : x ≡ y = one_stands (x ∷ L) 0 x y refl at_y in
        subst (λ v. IsTrue (is_lt (key_cmp (key_of v) (key_of z)))) e (up.0 z (in_at L z n at_z))
    below_at (x ∷ L) up (suc m) zero y z h at_y at_z = absurd (omega arith)
    below_at (x ∷ L) up (suc m) (suc n) y z h at_y at_z = below_at L up.1 m n y z (omega arith) at_y at_z

    apart : (m n : ℕ) (y z : At) → m < n → slice_get (map at_of spots) m ≡ Some y
        → slice_get (map at_of spots) n ≡ Some z → key_of y ≡ key_of z → ⊥
    apart m n y z h at_y at_z e = not_itself key_cmp (key_total names lists) (key_of z)
        (subst (λ k. IsTrue (is_lt (key_cmp k (key_of z)))) e (below_at (map at_of spots)
        (climbs key_of key_cmp (key_total names lists) (map at_of spots) table.up) m n y z h at_y at_z))

    one_place : (m n : ℕ) (y z : At) → slice_get (map at_of spots) m ≡ Some y
        → slice_get (map at_of spots) n ≡ Some z → key_of y ≡ key_of z → m ≡ n
    one_place m n y z at_y at_z e = elim (cases_lt m n) [
      | inl h ↦ absurd (apart m n y z h at_y at_z e)
      | inr h ↦ elim (cases_lt n m) [
        | inl g ↦ absurd (apart n m z y g at_z at_y (sym e))
        | inr g ↦ omega arith
      ]
    ]

    module _ (b : NodeId) (C : Option ℕ) (number n : ℕ) (x : At) (arc : TurnArc) (to_number from_number : Option ℕ)
        (sum : ℕ) (leads : LeadsBy (map at_of spots) x arc n)
        (from_is : slice_get list number ≡ Some from_number) (to_is : slice_get list n ≡ Some to_number)
        (summed : slice_get costs n ≡ Some sum) where
      pub over_holds : AtMost to_number (plus from_number (Some sum))
          → HoldsAtEnds b C from_number leads.to.piece.places → HoldsOnArc (map at_of spots) list b C number x arc
      over_holds g ends m to at_to key =
          let k : key_of to ≡ key_of leads.to = key ∙ sym leads.named in
          let same : m ≡ n = one_place m n to leads.to at_to leads.at k in
          let one : to ≡ leads.to
          = one_stands (map at_of spots) n to leads.to (ap (slice_get (map at_of spots)) (sym same) ∙ at_to)
          leads.at in
          let from : from_number ≡ number_at list number = sym (ap number_in from_is) in
          let there : to_number ≡ number_at list m = sym (ap (number_at list) same ∙ ap number_in to_is) in
          let h : HoldsOver b C from_number to_number leads.to.piece.places = record {
            goes_on = subst (λ v. AtMost to_number (plus from_number (Some v)))
                (sum_is n sum leads.to leads.at summed) g;
            ends = ends;
          } in
          subst (λ y. HoldsOver b C (number_at list number) (number_at list m) y.piece.places) (sym one)
          (subst (λ v. HoldsOver b C v (number_at list m) leads.to.piece.places) from
          (subst (λ v. HoldsOver b C from_number v leads.to.piece.places) there h))

      over_all : HoldsOnArc (map at_of spots) list b C number x arc
          → HoldsOver b C from_number to_number leads.to.piece.places
      over_all h =
          subst (λ v. HoldsOver b C v to_number leads.to.piece.places) (ap number_in from_is)
          (subst (λ v. HoldsOver b C (number_at list number) v leads.to.piece.places) (ap number_in to_is)
          (h n leads.to leads.at leads.named))

      pub over_goes_on : HoldsOnArc (map at_of spots) list b C number x arc
          → AtMost to_number (plus from_number (Some sum))
      over_goes_on h = subst (λ v. AtMost to_number (plus from_number (Some v)))
          (sym (sum_is n sum leads.to leads.at summed)) (over_all h).goes_on

      pub over_ends : HoldsOnArc (map at_of spots) list b C number x arc
          → HoldsAtEnds b C from_number leads.to.piece.places
      over_ends h = (over_all h).ends

  -- a context that was read
  module _ (number : ℕ) (x : At) (s : Spot) (within : number < length spots) (is : s ≡ get_or spots number s)
      (at : slice_get (map at_of spots) number ≡ Some x) where
    pub read_is : x ≡ at_of s
    read_is = one_stands (map at_of spots) number x (at_of s) at (spot_read spots number s within is)

    module _ (a b : NodeId) (C v : Option ℕ) (places : List Place) (v_is : slice_get list number ≡ Some v)
        (are : places ≡ s.piece.now.places) where
      pub starts_read : HoldsAtStarts a b C v places → HoldsAtStarts a b C (number_at list number) x.piece.places
      starts_read h = subst (λ y. HoldsAtStarts a b C (number_at list number) y.piece.places) (sym read_is)
          (subst (λ u. HoldsAtStarts a b C u (at_of s).piece.places) (sym (ap number_in v_is))
          (subst (λ l. HoldsAtStarts a b C v l) are h))

      pub starts_back : HoldsAtStarts a b C (number_at list number) x.piece.places → HoldsAtStarts a b C v places
      starts_back h = subst (λ l. HoldsAtStarts a b C v l) (sym are)
          (subst (λ u. HoldsAtStarts a b C u (at_of s).piece.places) (ap number_in v_is)
          (subst (λ y. HoldsAtStarts a b C (number_at list number) y.piece.places) read_is h))

-- the places of a context that was read
module _ (spots : List Spot) (b : NodeId) (C v : Option ℕ) (n : ℕ) (x : At) (s : Spot) (places : List Place)
    (within : n < length spots) (is : s ≡ get_or spots n s) (at : slice_get (map at_of spots) n ≡ Some x)
    (are : places ≡ s.piece.now.places) where
  same_places : places ≡ x.piece.places
  same_places = are ∙ ap (λ (y : At). y.piece.places)
      (one_stands (map at_of spots) n (at_of s) x (spot_read spots n s within is) at)

  pub ends_read : HoldsAtEnds b C v places → HoldsAtEnds b C v x.piece.places
  ends_read h = subst (λ l. HoldsAtEnds b C v l) same_places h

  pub ends_back : HoldsAtEnds b C v x.piece.places → HoldsAtEnds b C v places
  ends_back h = subst (λ l. HoldsAtEnds b C v l) (sym same_places) h
