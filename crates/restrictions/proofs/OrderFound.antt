-- The order that is found is the one in which via members are passed.
use Rattle.std.proofs.Common.{◌≡◌, Bool, true, false, cond, ◌&&◌, ◌||◌, not, List, length, Option, Some, None}
use Rattle.std.proofs.Common.{reverse, refl, sym, ap, is_some}
use Rattle.std.specs.Prelude.{nat_lt}
use Rattle.std.proofs.lemmas.Bool.{false≢true}
use Rattle.road_base.specs.declared.ids.Key.{Key}
use Rattle.road_base.specs.declared.objects.Relation.{Relation}
use Rattle.road_base.specs.Objects.{Objects}
use Rattle.road_model.specs.declared.answers.Unusable.{Unusable}
use Rattle.road_model.specs.declared.answers.Unusable.TheVariants.{NotAnEnd, NotConnected}
use Rattle.road_model.specs.Rules.{Rules}
use Rattle.road_model.specs.Restrictions.{any_way, are_ways, connects, is_backward, misses_end, via_order, vias}
use Rattle.restrictions.specs.Causes.{may_be_reversed, misfit_of}

-- the cause, by whether an end is missed, whether the via members are ways, and whether they connect
abbrev misfit_by : Bool → Bool → Bool → Option Unusable
misfit_by misses ways joined = cond misses (Some NotAnEnd) (cond (ways && not joined) (Some NotConnected) None)

-- whether the via members are passed in the reversed order, by what is asked of the profile and of the two orders
abbrev turned : (reverses ways two misses joined misses_back joined_back : Bool) → Bool
turned reverses ways two misses joined misses_back joined_back = reverses
    && ((ways && two) && ((misses || not joined) && not (misses_back || not joined_back)))

fits_listed : (reverses ways two misses joined misses_back joined_back : Bool) → misfit_by misses ways joined ≡ None
    → turned reverses ways two misses joined misses_back joined_back ≡ false
fits_listed false ways two misses joined misses_back joined_back fits = refl
fits_listed true false two misses joined misses_back joined_back fits = refl
fits_listed true true false misses joined misses_back joined_back fits = refl
fits_listed true true true true joined misses_back joined_back fits = cc
fits_listed true true true false true misses_back joined_back fits = refl
fits_listed true true true false false misses_back joined_back fits = cc

not_turned : (reverses ways two misses joined misses_back joined_back : Bool)
    → ((reverses && two) && ways) ≡ false → turned reverses ways two misses joined misses_back joined_back ≡ false
not_turned false ways two misses joined misses_back joined_back barred = refl
not_turned true false two misses joined misses_back joined_back barred = refl
not_turned true true false misses joined misses_back joined_back barred = refl
not_turned true true true misses joined misses_back joined_back barred = absurd (false≢true (sym barred))

neither_fits : (reverses ways two misses joined misses_back joined_back : Bool)
    → ((reverses && two) && ways) ≡ true → is_some (misfit_by misses_back ways joined_back) ≡ true
    → turned reverses ways two misses joined misses_back joined_back ≡ false
neither_fits false ways two misses joined misses_back joined_back may back = absurd (false≢true may)
neither_fits true false false misses joined misses_back joined_back may back = absurd (false≢true may)
neither_fits true true false misses joined misses_back joined_back may back = absurd (false≢true may)
neither_fits true false true misses joined misses_back joined_back may back = absurd (false≢true may)
neither_fits true true true false true misses_back joined_back may back = refl
neither_fits true true true true joined true joined_back may back = refl
neither_fits true true true true joined false false may back = refl
neither_fits true true true true joined false true may back = absurd (false≢true back)
neither_fits true true true false false true joined_back may back = refl
neither_fits true true true false false false false may back = refl
neither_fits true true true false false false true may back = absurd (false≢true back)

back_fits : (reverses ways two misses joined misses_back joined_back : Bool)
    → ((reverses && two) && ways) ≡ true → is_some (misfit_by misses ways joined) ≡ true
    → is_some (misfit_by misses_back ways joined_back) ≡ false
    → turned reverses ways two misses joined misses_back joined_back ≡ true
back_fits false ways two misses joined misses_back joined_back may listed back = absurd (false≢true may)
back_fits true false false misses joined misses_back joined_back may listed back = absurd (false≢true may)
back_fits true true false misses joined misses_back joined_back may listed back = absurd (false≢true may)
back_fits true false true misses joined misses_back joined_back may listed back = absurd (false≢true may)
back_fits true true true false true misses_back joined_back may listed back = absurd (false≢true listed)
back_fits true true true misses joined true joined_back may listed back = absurd (false≢true (sym back))
back_fits true true true misses joined false false may listed back = absurd (false≢true (sym back))
back_fits true true true true joined false true may listed back = refl
back_fits true true true false false false true may listed back = refl

module _ (M : Objects) (P : Rules) (r : Relation) where
  abbrev vs : List Key
  vs = vias r

  abbrev ws : List Key
  ws = reverse (vias r)

  order_by : (b : Bool) → (P.reverses && is_backward M r) ≡ b → via_order M P r ≡ cond b ws vs
  order_by b is = ap (λ (t : Bool). cond t ws vs) is

  pub order_listed : misfit_of M r vs ≡ None → via_order M P r ≡ vs
  order_listed fits = order_by false (fits_listed P.reverses (are_ways vs) (nat_lt 1 (length vs)) (misses_end M r vs)
      (connects M any_way r vs) (misses_end M r ws) (connects M any_way r ws) fits)

  pub order_kept : may_be_reversed P vs ≡ false → via_order M P r ≡ vs
  order_kept barred = order_by false (not_turned P.reverses (are_ways vs) (nat_lt 1 (length vs)) (misses_end M r vs)
      (connects M any_way r vs) (misses_end M r ws) (connects M any_way r ws) barred)

  pub order_of_neither : may_be_reversed P vs ≡ true → is_some (misfit_of M r ws) ≡ true → via_order M P r ≡ vs
  order_of_neither may back = order_by false (neither_fits P.reverses (are_ways vs) (nat_lt 1 (length vs))
      (misses_end M r vs) (connects M any_way r vs) (misses_end M r ws) (connects M any_way r ws) may back)

  pub order_reversed : may_be_reversed P vs ≡ true → is_some (misfit_of M r vs) ≡ true
      → is_some (misfit_of M r ws) ≡ false → via_order M P r ≡ ws
  order_reversed may listed back = order_by true (back_fits P.reverses (are_ways vs) (nat_lt 1 (length vs))
      (misses_end M r vs) (connects M any_way r vs) (misses_end M r ws) (connects M any_way r ws) may listed back)

  pub two_ways : may_be_reversed P vs ≡ true → nat_lt 1 (length vs) ≡ true
  two_ways may = two_by P.reverses (nat_lt 1 (length vs)) (are_ways vs) may
    where
      two_by : (a b c : Bool) → ((a && b) && c) ≡ true → b ≡ true
      two_by true true c h = refl
      two_by true false c h = absurd (false≢true h)
      two_by false b c h = absurd (false≢true h)
