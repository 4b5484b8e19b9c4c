-- The order of contexts by their names, and what a search by it finds.
use Rattle.std.proofs.Common.{◌≡◌, ℕ, List, map, sym, ◌∙◌, ap, subst, IsTrue, Contains, Ok, Err}
use Rattle.std.specs.Cmp.{IsTotalOrder}
use Rattle.std.specs.FinMap.{IsAntisymmetric}
use Rattle.std.specs.List.{HoldsAt}
use Rattle.std.specs.List.Sorted.{IsBinarySearchResult}
use Rattle.std.proofs.lemmas.Cmp.{on_total, then_total}
use Rattle.std.proofs.lemmas.Simd.{map-map}
use Rattle.road_model.specs.declared.lists.PieceName.{PieceName}
use Rattle.ordered_lists.specs.Orders.{rises}
use Rattle.road_model.specs.Orders.{name_cmp, names_cmp}
use Rattle.ordered_lists.proofs.SortedMaps.{search_found}
use Rattle.ordered_lists.proofs.ListMembers.{contains_from_map}
use Rattle.context_search.specs.declared.spots.Spot.{Spot}
use Rattle.context_search.specs.Marks.{At, at_of, key_of, key_cmp}
use Rattle.context_search.proofs.NamedMembers as members
use Rattle.road_model.proofs.TotalOrders.{then_equal}

abbrev Key : Type 0
Key = PieceName × List PieceName

module _ (names : IsTotalOrder name_cmp) (lists : IsTotalOrder names_cmp) where
  pub key_total : IsTotalOrder key_cmp
  key_total = then_total (on_total (λ (k : Key). k.0) names) (on_total (λ (k : Key). k.1) lists)

module _ (name_ties : IsAntisymmetric name_cmp) (list_ties : IsAntisymmetric names_cmp) where
  pub key_exact : IsAntisymmetric key_cmp
  key_exact a b e =
      let p = then_equal _ _ e in
      let n = name_ties a.0 b.0 p.0 in
      let l = list_ties a.1 b.1 p.1 in
      λ i. (n i, l i)

abbrev spot_key : Spot → Key
spot_key s = key_of (at_of s)

module _ (names : IsTotalOrder name_cmp) (lists : IsTotalOrder names_cmp) (spots : List Spot) (k : Key) where
  -- a search that finds nothing: nothing is there
  pub missed : (i : ℕ) → IsTrue (rises key_cmp (map key_of (map at_of spots)))
      → IsBinarySearchResult (λ s. key_cmp (key_of (at_of s)) k) spots (Err i)
      → (x : At) → Contains (map at_of spots) x → key_of x ≡ k → ⊥
  missed i up h x has e =
      let up2 : IsTrue (rises key_cmp (map spot_key spots))
      = subst (λ l. IsTrue (rises key_cmp l)) (map-map key_of at_of spots) up in
      let f = contains_from_map at_of spots x has in
      members.missed spot_key key_cmp (key_total names lists) k spots i up2 h f.0 f.1 (sym (ap key_of f.2) ∙ e)

  -- a search that finds something
  pub found : IsAntisymmetric name_cmp → IsAntisymmetric names_cmp → (i : ℕ)
      → IsBinarySearchResult (λ s. key_cmp (key_of (at_of s)) k) spots (Ok i)
      → HoldsAt (λ s. key_of (at_of s) ≡ k) spots i
  found name_ties list_ties i h = search_found spot_key key_cmp (key_total names lists)
      (key_exact name_ties list_ties) k spots (Ok i) h
