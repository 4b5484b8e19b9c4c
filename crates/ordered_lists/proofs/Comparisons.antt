-- What the tests of a comparison tell of it, and what is below what.
use Rattle.std.proofs.Common.{◌≡◌, ◌⊎◌, inl, inr, true, false, IsTrue, Ordering, refl, ap, ◌∙◌}
use Rattle.std.specs.declared.cmp.Ordering.TheVariants.{Less, Equal, Greater}
use Rattle.std.specs.Ordering.{is_lt, is_le, is_eq, is_gt, ordering_reverse}
use Rattle.std.specs.Cmp.{IsTotalOrder}
use Rattle.std.proofs.lemmas.Cmp.{tied_itself}

pub eq_cases : (r : Ordering) → (r ≡ Equal) ⊎ (is_eq r ≡ false)
eq_cases Less = inr refl
eq_cases Equal = inl refl
eq_cases Greater = inr refl

pub less : (r : Ordering) → IsTrue (is_lt r) → r ≡ Less
less Less h = refl
less Equal h = cc
less Greater h = cc

pub below_upto : (r : Ordering) → is_lt r ≡ true → is_le r ≡ true
below_upto Less h = refl
below_upto Equal h = cc
below_upto Greater h = cc

pub not_above : (r : Ordering) → is_le r ≡ true → is_gt r ≡ false
not_above Less h = refl
not_above Equal h = refl
not_above Greater h = cc

pub from_not_above : (r : Ordering) → is_gt r ≡ false → is_le r ≡ true
from_not_above Less h = refl
from_not_above Equal h = refl
from_not_above Greater h = cc

-- what is not below, and not above, is equal
pub between : (r : Ordering) → is_lt r ≡ false → is_le r ≡ true → is_eq r ≡ true
between Less h g = cc
between Equal h g = refl
between Greater h g = cc

module _ {N : Type 0} (R : N → N → Ordering) (total : IsTotalOrder R) where
  pub over : (a b c : N) → IsTrue (is_lt (R a b)) → IsTrue (is_lt (R b c)) → IsTrue (is_lt (R a c))
  over a b c h k = ap is_lt (total.trans a b c (less _ h) (less _ k))

  pub not_itself : (a : N) → IsTrue (is_lt (R a a)) → ⊥
  not_itself a h = let e = less _ h in let f = tied_itself total a in cc

  -- the same two, the other way round
  pub turned : (a b : N) (r : Ordering) → R a b ≡ r → R b a ≡ ordering_reverse r
  turned a b r e = total.antisymm b a ∙ ap ordering_reverse e
