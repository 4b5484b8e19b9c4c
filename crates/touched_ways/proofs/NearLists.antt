-- A search in ascending ways, and the ways of a list that aren't among some others.
use Rattle.std.proofs.Common.{◌≡◌, ◌↔◌, ℕ, inl, inr, Bool, IsTrue}
use Rattle.std.proofs.Common.{List, [], ◌∷◌, ◌++◌, length, map, refl, sym, ap, ◌∙◌, subst, arith, Contains}
use Rattle.std.proofs.Common.{Result, Ok, Err, is_ok}
use Rattle.std.specs.declared.cmp.Ordering.TheVariants.{Less, Greater}
use Rattle.std.specs.Cmp.{IsTotalOrder}
use Rattle.std.specs.FinMap.{IsAntisymmetric}
use Rattle.std.specs.List.{AllWithin}
use Rattle.std.specs.List.Sorted.{IsSearchInRange, IsBinarySearchResult}
use Rattle.std.proofs.lemmas.Bool.{cases_lt, false≢true}
use Rattle.std.proofs.lemmas.Cmp.{tied_itself}
use Rattle.std.specs.Ordering.{is_lt}
use Rattle.road_base.specs.declared.ids.WayId.{WayId}
use Rattle.ordered_lists.proofs.JoinedLists.{lists_none, lists_pushed, lists_same}
use Rattle.ordered_lists.proofs.ListMembers.{contains_none, in_from_contains}
use Rattle.ordered_lists.specs.Orders.{Lists, rises}
use Rattle.road_model.specs.Orders.{way_cmp}
use Rattle.ordered_lists.proofs.SortedMaps.{search_below, search_behind}
use Rattle.ordered_lists.proofs.RisingLists.{below_last}
use Rattle.touched_ways.proofs.WayLists.{same, was_or_last, still_has, last_has}

-- ---- a search in ascending ways

module _ (total : IsTotalOrder way_cmp) (ties : IsAntisymmetric way_cmp) (ways : List WayId) (w : WayId) where
  -- no way stands where all before are below it, and all behind above it
  missed : (i : ℕ) → AllWithin (λ v. way_cmp v w ≡ Less) ways 0 i
      → AllWithin (λ v. way_cmp v w ≡ Greater) ways i (length ways) → Contains ways w → ⊥
  missed i below behind (j, within, is) =
      let tied = tied_itself total w in
      elim (cases_lt j i) [
        | inl l ↦ let e : way_cmp w w ≡ Less = subst (λ v. way_cmp v w ≡ Less) is (below j w (omega arith) l) in cc
        | inr l ↦ let e : way_cmp w w ≡ Greater = subst (λ v. way_cmp v w ≡ Greater) is (behind j w l within) in cc
      ]

  -- in ascending ways it finds the way exactly where it is among them
  searched : IsTrue (rises way_cmp ways) → (r : Result ℕ ℕ) → IsSearchInRange r (length ways)
      → IsBinarySearchResult (λ v. way_cmp v w) ways r → IsTrue (is_ok r) ↔ Contains ways w
  searched up (Ok i) bound found = (λ h. (i, bound, ties _ _ (found w)), λ c. refl)
  searched up (Err i) bound found =
      let rising : IsTrue (rises way_cmp (map (λ v. v) ways)) =
      subst (λ l. IsTrue (rises way_cmp l)) (sym (same ways)) up
      in
      let below = search_below (λ v. v) way_cmp total w ways (Err i) rising found in
      let behind = search_behind (λ v. v) way_cmp total w ways (Err i) rising found in
      (λ h. absurd (false≢true h), λ c. absurd (missed i below behind c))

  -- whether the search has found the way says whether it is in the list
  pub found_way : (items : List WayId) → items ≡ ways → IsTrue (rises way_cmp ways) → (r : Result ℕ ℕ)
      → IsSearchInRange r (length items) → IsBinarySearchResult (λ v. way_cmp v w) items r → (b : Bool) → b ≡ is_ok r
      → IsTrue b ↔ Contains ways w
  found_way items e up r bound position b is =
      let f = searched up r (subst (λ (l : List WayId). IsSearchInRange r (length l)) e bound)
      (subst (λ (l : List WayId). IsBinarySearchResult (λ v. way_cmp v w) l r) e position) in
      (λ h. f.0 (sym is ∙ h), λ c. is ∙ f.1 c)

-- ---- the ways that aren't among some others

module _ (others : List WayId) where
  -- those of a list that aren't among the others
  abbrev pub AreApart : List WayId → List WayId → Type 0
  AreApart front apart = Lists (λ w. w) way_cmp (λ w. Contains front w × (Contains others w → ⊥)) apart

  pub apart_none : (apart : List WayId) → apart ≡ [] → AreApart [] apart
  apart_none apart none = subst (AreApart []) (sym none)
      (lists_none (λ w. w) way_cmp (λ w. Contains [] w × (Contains others w → ⊥)) (λ w is. contains_none w is.0))

  module _ (total : IsTotalOrder way_cmp) (front more apart : List WayId) (way : WayId)
      (longer : more ≡ front ++ way ∷ []) (up : IsTrue (rises way_cmp more)) (are : AreApart front apart) where
    above : (w : WayId) → Contains front w → way_cmp w way ≡ Less
    above w has = below_last way_cmp total front way (subst (λ l. IsTrue (rises way_cmp l)) longer up) w
        (in_from_contains front w has)

    -- the last way isn't among the others
    pub apart_more : (Contains others way → ⊥) → (pushed next : List WayId) → pushed ≡ apart ++ way ∷ []
        → next ≡ pushed → AreApart more next
    apart_more out pushed next last_in same = subst (AreApart more) (sym same)
        (lists_pushed (λ w. w) way_cmp (λ w. Contains front w × (Contains others w → ⊥))
        (λ w. Contains more w × (Contains others w → ⊥)) apart pushed way last_in are
        (λ w is. ap is_lt (above w is.0)) (λ w is. (still_has front more way longer w is.0, is.1))
        (last_has front more way longer way refl, out)
        (λ w is. elim (was_or_last front more way longer w is.0)
        [ inl earlier ↦ inr (earlier, is.1) | inr last ↦ inl last ]))

    -- or it is
    pub apart_same : Contains others way → (next : List WayId) → next ≡ apart → AreApart more next
    apart_same among next alike = subst (AreApart more) (sym alike)
        (lists_same (λ w. w) way_cmp (λ w. Contains front w × (Contains others w → ⊥))
        (λ w. Contains more w × (Contains others w → ⊥)) apart are
        (λ w is. (still_has front more way longer w is.0, is.1))
        (λ w is. elim (was_or_last front more way longer w is.0) [
          | inl earlier ↦ (earlier, is.1)
          | inr last ↦ absurd (is.1 (subst (Contains others) (sym last) among))
        ]))
