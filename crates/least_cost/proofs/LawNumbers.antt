-- How the numbers at the contexts fall as visits are looked at, from the last one on.
use Rattle.std.proofs.Common.{◌≡◌, inl, inr, ℕ, zero, suc, List, [], ◌∷◌, map, Option, Some, None, slice_get, slice_set}
use Rattle.std.proofs.Common.{refl, sym, ap, ◌∙◌, subst, arith, IsTrue, Ordering, get_or, length, ◌<◌, replicate}
use Rattle.std.proofs.Common.{◌+◌, ◌++◌, take}
use Rattle.std.proofs.lemmas.List.{take_more, map-append, length-map}
use Rattle.std.specs.List.{HoldsAt}
use Rattle.std.specs.Cmp.{IsTotalOrder}
use Rattle.std.specs.FinMap.{IsAntisymmetric}
use Rattle.std.specs.Ordering.{is_lt}
use Rattle.std.specs.declared.cmp.Ordering.TheVariants.{Less, Equal, Greater}
use Rattle.std.proofs.lemmas.Cmp.{tied_itself}
use Rattle.ordered_lists.specs.Orders.{rises}
use Rattle.ordered_lists.proofs.AscendingLists.{Climbs, climbs}
use Rattle.ordered_lists.proofs.Comparisons.{not_itself}
use Rattle.ordered_lists.proofs.ListMembers.{In, in_at}
use Rattle.ordered_lists.proofs.ListPlaces.{read_at}
use Rattle.road_base.specs.declared.location.Location.{Location}
use Rattle.road_model.specs.declared.lists.PieceName.{PieceName}
use Rattle.road_model.proofs.TotalOrders.{name_cmp_total, names_cmp_total, name_cmp_exact, names_cmp_exact}
use Rattle.context_search.specs.declared.spots.Spot.{Spot}
use Rattle.context_search.specs.Marks.{At, at_of, key_of, key_cmp}
use Rattle.context_search.proofs.SearchKeys.{key_total, key_exact}
use Rattle.least_cost.proofs.CheckSpots.{map_at, spot_there}
use Rattle.least_cost.specs.declared.visiting.CostVisit.{CostVisit}
use Rattle.least_cost.specs.CostVisits.{names_at}
use Rattle.least_cost.specs.Latitudes.{latitudes_left}
use Rattle.least_cost.specs.Lowered.{least_at, least_to, less_left, lesser_if, lesser_of, number_left}

if_other : (r : Ordering) (n : ℕ) (more : Option ℕ) → (r ≡ Equal → ⊥) → lesser_if r n more ≡ more
if_other Equal n more h = absurd (h refl)
if_other Less n more h = refl
if_other Greater n more h = refl

module _ (total : IsTotalOrder key_cmp) (ties : IsAntisymmetric key_cmp) (v : CostVisit) (visits : List CostVisit) where
  -- a context of another name keeps its number
  other : (x : At) → (names_at v ≡ key_of x → ⊥) → least_at visits x ≡ least_at (v ∷ visits) x
  other x h = sym (if_other (key_cmp (names_at v) (key_of x)) v.cost (least_to visits (key_of x))
      (λ e. h (ties (names_at v) (key_of x) e)))

  others : (L : List At) → ((x : At) → In x L → names_at v ≡ key_of x → ⊥)
      → map (least_at visits) L ≡ map (least_at (v ∷ visits)) L
  others [] h = refl
  others (x ∷ L) h =
      let a = other x (h x (inl refl)) in
      let b = others L (λ y i. h y (inr i)) in
      λ i. a i ∷ b i

  here : (x : At) → names_at v ≡ key_of x → lesser_of (Some v.cost) (least_at visits x) ≡ least_at (v ∷ visits) x
  here x e =
      let tie : key_cmp (names_at v) (key_of x) ≡ Equal =
      subst (λ k. key_cmp k (key_of x) ≡ Equal) (sym e) (tied_itself total (key_of x)) in
      ap (λ r. lesser_if r v.cost (least_to visits (key_of x))) (sym tie)

  below : (x y : At) → IsTrue (is_lt (key_cmp (key_of x) (key_of y))) → names_at v ≡ key_of x → names_at v ≡ key_of y
      → ⊥
  below x y l e f = not_itself key_cmp total (key_of y)
      (subst (λ k. IsTrue (is_lt (key_cmp k (key_of y)))) (sym e ∙ f) l)

  -- the number of the visit's context falls to its cost, if that is less
  pub lowered_at : (L : List At) → Climbs key_of key_cmp total L → (i : ℕ) (x : At) → slice_get L i ≡ Some x
      → names_at v ≡ key_of x
      → slice_set (map (least_at visits) L) i (lesser_of (Some v.cost) (least_at visits x))
      ≡ map (least_at (v ∷ visits)) L
  lowered_at [] up i x at e = absurd (cc (at))
  lowered_at (y ∷ L) up zero x at e =
      let same : y ≡ x = cc in
      let first : lesser_of (Some v.cost) (least_at visits x) ≡ least_at (v ∷ visits) y =
      here x e ∙ ap (least_at (v ∷ visits)) (sym same) in
      let rest = others L (λ z i f. below y z (up.0 z i) (e ∙ ap key_of (sym same)) f) in
      λ i. first i ∷ rest i
  lowered_at (y ∷ L) up (suc n) x at e =
      let first = other y (λ f. below y x (up.0 x (in_at L x n at)) f e) in
      let rest = lowered_at L up.1 n x at e in
      λ i. first i ∷ rest i

abbrev pub key_all : IsTotalOrder key_cmp
key_all = key_total name_cmp_total names_cmp_total

abbrev pub key_ties : IsAntisymmetric key_cmp
key_ties = key_exact name_cmp_exact names_cmp_exact

-- where a visit's context was found by its names, and its cost put there if that is less
pub lowered_in : (spots : List Spot) (costs : List (Option ℕ)) (v : CostVisit) (visits : List CostVisit) (n : ℕ)
    (names : List PieceName) (old : Option ℕ) → IsTrue (rises key_cmp (map key_of (map at_of spots)))
    → names ≡ v.spot.context.now.before → n < length spots
    → HoldsAt (λ s. key_of (at_of s) ≡ (v.spot.piece.now.name, names)) spots n → n < length costs
    → old ≡ get_or costs n old → costs ≡ map (least_at visits) (map at_of spots)
    → slice_set costs n (lesser_of (Some v.cost) old) ≡ map (least_at (v ∷ visits)) (map at_of spots)
lowered_in spots costs v visits n names old up same within holds room read e =
    let L = map at_of spots in
    let t = spot_there spots n (v.spot.piece.now.name, names) within holds in
    let named : names_at v ≡ key_of t.0 = ap (λ b. (v.spot.piece.now.name, b)) (sym same) ∙ sym t.2 in
    let is : Some old ≡ Some (least_at visits t.0) =
    sym (read_at costs n old room read) ∙ ap (λ l. slice_get l n) e ∙ map_at (least_at visits) L n t.0 t.1 in
    let value : old ≡ least_at visits t.0 = cc (is) in
    ap (λ l. slice_set l n (lesser_of (Some v.cost) old)) e
    ∙ ap (λ o. slice_set (map (least_at visits) L) n (lesser_of (Some v.cost) o)) value
    ∙ lowered_at key_all key_ties v visits L (climbs key_of key_cmp key_all L up) n t.0 t.1 named

-- before any visit is looked at
pub none_reached : (L : List At) (n : ℕ) → n ≡ length L → replicate n None ≡ map (least_at []) L
none_reached [] zero e = refl
none_reached [] (suc n) e = absurd (cc (e))
none_reached (x ∷ L) zero e = absurd (cc (e))
none_reached (x ∷ L) (suc n) e = let rest = none_reached L n (omega arith) in λ i. None ∷ rest i

-- the numbers of the contexts so far, and that of the next one
pub numbers_more : (spots : List Spot) (costs : List (Option ℕ)) (visits : List CostVisit) (C : Option ℕ)
    (to : Location) (i : ℕ) (s : Spot) (cost value : Option ℕ) (done : List (Option ℕ)) → i < length spots
    → s ≡ get_or spots i s → cost ≡ get_or costs i cost → costs ≡ map (least_at visits) (map at_of spots)
    → value ≡ lesser_of cost (less_left C (latitudes_left s.piece.now.places to))
    → done ≡ map (number_left visits C to) (map at_of (take i spots))
    → done ++ value ∷ [] ≡ map (number_left visits C to) (map at_of (take (i + 1) spots))
numbers_more spots costs visits C to i s cost value done h s_is cost_is e value_is so_far =
    let number = number_left visits C to in
    let at = map_at at_of spots i s (read_at spots i s h s_is) in
    let a = ap length e in
    let b = length-map (map at_of spots) (least_at visits) in
    let d = length-map spots at_of in
    let is : Some cost ≡ Some (least_at visits (at_of s)) =
    sym (read_at costs i cost (omega (arith, h, a, b, d)) cost_is) ∙ ap (λ l. slice_get l i) e
    ∙ map_at (least_at visits) (map at_of spots) i (at_of s) at in
    let least : cost ≡ least_at visits (at_of s) = cc (is) in
    let next : value ≡ number (at_of s) =
    value_is ∙ ap (λ o. lesser_of o (less_left C (latitudes_left s.piece.now.places to))) least in
    let more : take (i + 1) spots ≡ take i spots ++ s ∷ [] =
    take_more spots i s h ∙ ap (λ z. take i spots ++ z ∷ []) (sym s_is) in
    ap (λ l. l ++ value ∷ []) so_far
    ∙ ap (λ z. map number (map at_of (take i spots)) ++ z ∷ []) next
    ∙ sym (map-append number (map at_of (take i spots)) (at_of s ∷ []))
    ∙ ap (map number) (sym (map-append at_of (take i spots) (s ∷ [])))
    ∙ ap (λ l. map number (map at_of l)) (sym more)
