-- The numbers at the contexts that a search by cost leaves are least ones of what it came to.
use Rattle.std.proofs.Common.{◌≡◌, ◌⊎◌, inl, inr, ℕ, zero, suc, List, [], ◌∷◌, Option, Some, None}
use Rattle.std.proofs.Common.{refl, sym, ap, ◌∙◌, subst, arith, slice_get, Ordering}
use Rattle.std.specs.declared.cmp.Ordering.TheVariants.{Less, Equal, Greater}
use Rattle.std.specs.Cmp.{IsTotalOrder}
use Rattle.std.specs.FinMap.{IsAntisymmetric}
use Rattle.std.proofs.Math.Nat.{min-le_left, min-le_right, min-eq_left, min-eq_right}
use Rattle.std.proofs.lemmas.Bool.{cases_lt}
use Rattle.std.proofs.lemmas.Cmp.{tied_itself}
use Rattle.context_search.specs.Marks.{key_cmp}
use Rattle.least_cost.specs.declared.visiting.CostVisit.{CostVisit}
use Rattle.least_cost.specs.Certified.{AtMost}
use Rattle.least_cost.specs.CostVisits.{ContextNames, names_at}
use Rattle.least_cost.specs.Lowered.{lesser_of, lesser_if, least_to}
use Rattle.least_cost.proofs.LawCosts.{at_most_trans}

pub at_most_same : (x : Option ℕ) → AtMost x x
at_most_same None = tt
at_most_same (Some n) = omega arith

pub lesser_left : (x y : Option ℕ) → AtMost (lesser_of x y) x
lesser_left None y = tt
lesser_left (Some n) None = omega arith
lesser_left (Some n) (Some m) = min-le_left n m

pub lesser_right : (x y : Option ℕ) → AtMost (lesser_of x y) y
lesser_right None y = at_most_same y
lesser_right (Some n) None = tt
lesser_right (Some n) (Some m) = min-le_right n m

-- it is one of the two
pub lesser_is : (x y : Option ℕ) → (lesser_of x y ≡ x) ⊎ (lesser_of x y ≡ y)
lesser_is None y = inr refl
lesser_is (Some n) None = inl refl
lesser_is (Some n) (Some m) = elim (cases_lt n m) [
  | inl l ↦ inl (ap Some (min-eq_left (omega arith)))
  | inr l ↦ inr (ap Some (min-eq_right l))
]

if_more : (r : Ordering) (n : ℕ) (more : Option ℕ) → AtMost (lesser_if r n more) more
if_more Equal n more = lesser_right (Some n) more
if_more Less n more = at_most_same more
if_more Greater n more = at_most_same more

-- the visit stands in the list, is of the context of these names, and costs n
pub record Costing (visits : List CostVisit) (q : ContextNames) (n : ℕ) : Type 0 where
  pub place : ℕ
  pub visit : CostVisit
  pub at : slice_get visits place ≡ Some visit
  pub named : names_at visit ≡ q
  pub cost : visit.cost ≡ n

module _ (total : IsTotalOrder key_cmp) (ties : IsAntisymmetric key_cmp) where
  pub least_reached : (visits : List CostVisit) (q : ContextNames) (k : ℕ) (v : CostVisit) → slice_get visits k ≡ Some v
      → names_at v ≡ q → AtMost (least_to visits q) (Some v.cost)
  least_reached [] q k v at named = absurd (cc (at))
  least_reached (w ∷ visits) q zero v at named =
      let same : w ≡ v = cc in
      let tie : key_cmp (names_at w) q ≡ Equal =
      subst (λ z. key_cmp z q ≡ Equal) (sym (ap names_at same ∙ named)) (tied_itself total q) in
      subst (λ r. AtMost (lesser_if r w.cost (least_to visits q)) (Some v.cost)) (sym tie)
      (subst (λ (z : CostVisit). AtMost (lesser_of (Some w.cost) (least_to visits q)) (Some z.cost)) same
      (lesser_left (Some w.cost) (least_to visits q)))
  least_reached (w ∷ visits) q (suc k) v at named =
      at_most_trans (lesser_if (key_cmp (names_at w) q) w.cost (least_to visits q)) (least_to visits q) (Some v.cost)
      (if_more (key_cmp (names_at w) q) w.cost (least_to visits q)) (least_reached visits q k v at named)

  later : (w : CostVisit) (visits : List CostVisit) (q : ContextNames) (n : ℕ) → Costing visits q n
      → Costing (w ∷ visits) q n
  later w visits q n c = record {
    place = suc c.place;
    visit = c.visit;
    at = c.at;
    named = c.named;
    cost = c.cost;
  }

  here : (w : CostVisit) (visits : List CostVisit) (q : ContextNames) (n : ℕ) → names_at w ≡ q → w.cost ≡ n
      → Costing (w ∷ visits) q n
  here w visits q n named cost = record { place = 0; visit = w; at = refl; named = named; cost = cost }

  stands_by : (w : CostVisit) (visits : List CostVisit) (q : ContextNames) (n : ℕ)
      → (least_to visits q ≡ Some n → Costing visits q n) → (r : Ordering) → key_cmp (names_at w) q ≡ r
      → lesser_if r w.cost (least_to visits q) ≡ Some n → Costing (w ∷ visits) q n
  stands_by w visits q n more Less e h = later w visits q n (more h)
  stands_by w visits q n more Greater e h = later w visits q n (more h)
  stands_by w visits q n more Equal e h = elim (lesser_is (Some w.cost) (least_to visits q)) [
    | inl f ↦ let same : Some w.cost ≡ Some n = sym f ∙ h in here w visits q n (ties (names_at w) q e) (cc (same))
    | inr f ↦ later w visits q n (more (sym f ∙ h))
  ]

  pub least_stands : (visits : List CostVisit) (q : ContextNames) (n : ℕ) → least_to visits q ≡ Some n → Costing
      visits q n
  least_stands [] q n h = absurd (cc (h))
  least_stands (w ∷ visits) q n h =
      stands_by w visits q n (least_stands visits q n) (key_cmp (names_at w) q) refl h
