-- The first cause that holds is found by looking at the causes in their order.
use Rattle.std.proofs.Common.{◌≡◌, ℕ, suc, Bool, true, false, cond, ◌&&◌, ◌||◌, not, IsTrue, List}
use Rattle.std.proofs.Common.{Option, Some, None, refl, sym, ap, ◌∙◌, subst, arith}
use Rattle.std.specs.Prelude.{nat_lt, nat_eq}
use Rattle.std.specs.List.{list_any}
use Rattle.std.proofs.lemmas.Bool.{false≢true, or_parts, ltb-true, ltb-false}
use Rattle.road_base.specs.declared.ids.Key.{Key}
use Rattle.road_base.specs.declared.objects.Relation.{Relation}
use Rattle.road_base.specs.Objects.{Objects}
use Rattle.road_model.specs.declared.answers.RuleKind.TheVariants.{Freed, Absent}
use Rattle.road_model.specs.declared.answers.Unusable.{Unusable}
use Rattle.road_model.specs.declared.answers.Unusable.TheVariants.{NotThisVehicle, NoValue, Members, Missing, NotAnEnd}
use Rattle.road_model.specs.declared.answers.Unusable.TheVariants.{NotConnected, ClosedVia, TooLong}
use Rattle.road_model.specs.Rules.{Rules, is_only}
use Rattle.road_model.specs.Driving.{is_open}
use Rattle.road_model.specs.Restrictions.{any_way, are_ways, connects, is_ring, lacks_member, misses_end}
use Rattle.road_model.specs.Restrictions.{via_order, vias, wrong_members, some_ends_at, via_ends, first_of, last_of}
use Rattle.road_model.specs.Restrictions.{froms, tos, cause_number, Holds, IsFirstCause}
use Rattle.road_model.specs.Words.{kind_of}
use Rattle.restrictions.specs.Causes.{misfit_of}

-- ---- the causes by their numbers

cause_of : ℕ → Option Unusable
cause_of n =
    cond (nat_eq n 1) (Some NotThisVehicle) (cond (nat_eq n 2) (Some NoValue) (cond (nat_eq n 3) (Some Members)
    (cond (nat_eq n 4) (Some Missing) (cond (nat_eq n 5) (Some NotAnEnd) (cond (nat_eq n 6) (Some NotConnected)
    (cond (nat_eq n 7) (Some ClosedVia) (Some TooLong)))))))

known : (cause : Unusable) → cause_of (cause_number cause) ≡ Some cause
unfolding cause_of
known NotThisVehicle = refl
known NoValue = refl
known Members = refl
known Missing = refl
known NotAnEnd = refl
known NotConnected = refl
known ClosedVia = refl
known TooLong = refl

one_number : (a b : Unusable) → cause_number a ≡ cause_number b → a ≡ b
one_number a b same = let e : Some a ≡ Some b = sym (known a) ∙ (ap cause_of same ∙ known b) in cc (e)

none_below : (cause : Unusable) → nat_lt (cause_number cause) 1 ≡ false
none_below NotThisVehicle = refl
none_below NoValue = refl
none_below Members = refl
none_below Missing = refl
none_below NotAnEnd = refl
none_below NotConnected = refl
none_below ClosedVia = refl
none_below TooLong = refl

number_cases : (i n : ℕ) (b : Bool) → nat_lt i n ≡ b → nat_lt i (suc n) ≡ true → b ≡ false → i ≡ n
number_cases i n b is below not_yet =
    let upto = ltb-true i (suc n) below in
    let above = ltb-false i n (is ∙ not_yet) in
    omega arith

-- ---- what an order that fits has

misfit_parts : (misses : Bool) (other : Option Unusable) → cond misses (Some NotAnEnd) other ≡ None
    → (misses ≡ false) × (other ≡ None)
misfit_parts true other fits = cc
misfit_parts false other fits = (refl, fits)

joined_by : (ways joined : Bool) → cond (ways && not joined) (Some NotConnected) None ≡ None → ways ≡ true
    → joined ≡ true
joined_by true true fits ways = refl
joined_by true false fits ways = cc
joined_by false joined fits ways = absurd (false≢true ways)

module _ (M : Objects) (r : Relation) (o : List Key) where
  pub lines_of : misses_end M r o ≡ false → list_any (is_ring M) o ≡ false
  lines_of meets = (or_parts (list_any (is_ring M) o) (not (some_ends_at M (froms r) (via_ends M (first_of o)))
      || not (some_ends_at M (tos r) (via_ends M (last_of o)))) meets).0

  meets_ends : misfit_of M r o ≡ None → misses_end M r o ≡ false
  meets_ends fits = (misfit_parts (misses_end M r o) _ fits).0

  pub lines_fit : misfit_of M r o ≡ None → list_any (is_ring M) o ≡ false
  lines_fit fits = lines_of (meets_ends fits)

  joined : misfit_of M r o ≡ None → are_ways (vias r) ≡ true → connects M any_way r o ≡ true
  joined fits ways = joined_by (are_ways (vias r)) (connects M any_way r o) (misfit_parts (misses_end M r o) _ fits).1
      ways

-- ---- rules

kind_only : (only : Bool) → is_only (kind_of only) ≡ only
kind_only true = refl
kind_only false = refl

never_freed : (only : Bool) → kind_of only ≡ Freed → ⊥
never_freed true e = cc
never_freed false e = cc

never_absent : (only : Bool) → kind_of only ≡ Absent → ⊥
never_absent true e = cc
never_absent false e = cc

module _ (M : Objects) (P : Rules) (r : Relation) where
  -- no cause of a lower number holds
  abbrev Clear : ℕ → Type 0
  Clear n = (other : Unusable) → IsTrue (nat_lt (cause_number other) n) → Holds M P r other → ⊥

  clear_first : Clear 1
  clear_first other below h = false≢true (sym (none_below other) ∙ below)

  clear_by : (cause other : Unusable) (b : Bool) → nat_lt (cause_number other) (cause_number cause) ≡ b
      → Clear (cause_number cause) → (Holds M P r cause → ⊥)
      → IsTrue (nat_lt (cause_number other) (suc (cause_number cause))) → Holds M P r other → ⊥
  clear_by cause other true is clear never below h = clear other is h
  clear_by cause other false is clear never below h = never (subst (Holds M P r)
      (one_number other cause (number_cases (cause_number other) (cause_number cause) false is below refl)) h)

  clear_more : (cause : Unusable) → Clear (cause_number cause) → (Holds M P r cause → ⊥)
      → Clear (suc (cause_number cause))
  clear_more cause clear never other below h = clear_by cause other _ refl clear never below h

  module _ (only : Bool) (kind : P.rule r.tags ≡ kind_of only) where
    wrong_by : wrong_members (is_only (P.rule r.tags)) r ≡ wrong_members only r
    wrong_by = ap (λ b. wrong_members b r) (ap is_only kind ∙ kind_only only)

    clear_rule : Clear 3
    clear_rule = clear_more NoValue (clear_more NotThisVehicle clear_first (λ e. never_freed only (sym kind ∙ e)))
        (λ e. never_absent only (sym kind ∙ e))

    module _ (right : wrong_members only r ≡ false) where
      clear_members : Clear 4
      clear_members = clear_more Members clear_rule (λ h. false≢true (sym right ∙ (sym wrong_by ∙ h)))

      module _ (there : lacks_member M r ≡ false) where
        clear_missing : Clear 5
        clear_missing = clear_more Missing clear_members (λ h. false≢true (sym there ∙ h))

        misfit_by : (misses ways leads : Bool) (cause : Unusable) → misses_end M r (via_order M P r) ≡ misses
            → are_ways (vias r) ≡ ways → connects M any_way r (via_order M P r) ≡ leads
            → cond misses (Some NotAnEnd) (cond (ways && not leads) (Some NotConnected) None) ≡ Some cause
            → IsFirstCause M P r cause
        misfit_by true ways leads cause a b c is =
            let same : NotAnEnd ≡ cause = cc (is) in
            let found : IsFirstCause M P r NotAnEnd = record { holds = a; first = clear_missing } in
            subst (IsFirstCause M P r) same found
        misfit_by false true false cause a b c is =
            let same : NotConnected ≡ cause = cc (is) in
            let found : IsFirstCause M P r NotConnected = record {
              holds = (b, c);
              first = clear_more NotAnEnd clear_missing (λ h. false≢true (sym a ∙ h));
            } in
            subst (IsFirstCause M P r) same found
        misfit_by false true true cause a b c is = cc
        misfit_by false false leads cause a b c is = cc

        pub misfit_first : (cause : Unusable) → misfit_of M r (via_order M P r) ≡ Some cause → IsFirstCause M P r cause
        misfit_first cause is = misfit_by (misses_end M r (via_order M P r)) (are_ways (vias r))
            (connects M any_way r (via_order M P r)) cause refl refl refl is

        module _ (o : List Key) (passed : o ≡ via_order M P r) (fits : misfit_of M r o ≡ None) where
          fits_there : misfit_of M r (via_order M P r) ≡ None
          fits_there = subst (λ (l : List Key). misfit_of M r l ≡ None) passed fits

          clear_misfit : Clear 7
          clear_misfit = clear_more NotConnected
              (clear_more NotAnEnd clear_missing
              (λ h. false≢true (sym (meets_ends M r (via_order M P r) fits_there) ∙ h)))
              (λ h. false≢true (sym h.1 ∙ joined M r (via_order M P r) fits_there h.0))

          closed_parts : (ways leads : Bool) → (ways && not leads) ≡ true → (ways ≡ true) × (leads ≡ false)
          closed_parts true false e = (refl, refl)
          closed_parts true true e = absurd (false≢true e)
          closed_parts false leads e = absurd (false≢true e)

          pub closed_first : (are_ways (vias r) && not (connects M (is_open M P) r o)) ≡ true
              → IsFirstCause M P r ClosedVia
          closed_first shut =
              let parts = closed_parts (are_ways (vias r)) (connects M (is_open M P) r o) shut in
              record {
                holds = (
                  parts.0,
                  joined M r (via_order M P r) fits_there parts.0,
                  subst (λ (l : List Key). connects M (is_open M P) r l ≡ false) passed parts.1,
                );
                first = clear_misfit;
              }
