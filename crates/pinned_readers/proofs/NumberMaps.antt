-- What finite maps from numbers have at a number after a change.
use Rattle.std.proofs.Common.{◌≡◌, ◌∙◌, ◌⊎◌, inl, inr, ℕ, true, false, cond, refl, sym, ap, subst}
use Rattle.std.specs.Prelude.{Option, Some, None, is_some, IsSome, T, not}
use Rattle.std.specs.Ordering.{nat_cmp, is_eq, eq_by_cmp}
use Rattle.std.specs.declared.cmp.Ordering.{Ordering}
use Rattle.std.specs.declared.cmp.Ordering.TheVariants.{Less, Equal, Greater}
use Rattle.std.specs.Cmp.{nat_cmp_total, tied_itself}
use Rattle.std.specs.FinMap.{FinMap, get, insert, remove, empty, get-empty, get-insert, get-remove}
use Rattle.std.specs.FinMap.{nat_cmp-IsAntisymmetric}
use Rattle.std.proofs.lemmas.Option.{none-some, same_Some}

pub false_true : false ≡ true → ⊥
false_true e = subst (λ b. T (not b)) e tt

equal : (r : Ordering) → is_eq r ≡ true → r ≡ Equal
equal Less e = absurd (false_true e)
equal Equal e = refl
equal Greater e = absurd (false_true e)

-- two numbers are one, or they are told apart
pub record Apart (q k : ℕ) : Type 0 where
  pub differ : q ≡ k → ⊥
  pub told : eq_by_cmp nat_cmp q k ≡ false

pub itself : (k : ℕ) → eq_by_cmp nat_cmp k k ≡ true
itself k = ap is_eq (tied_itself nat_cmp_total k)

pub same_or_apart : (q k : ℕ) → (q ≡ k) ⊎ Apart q k
same_or_apart q k =
    elim (eq_by_cmp nat_cmp q k) as (λ b. eq_by_cmp nat_cmp q k ≡ b → (q ≡ k) ⊎ Apart q k) [
      | true ↦ λ e. inl (nat_cmp-IsAntisymmetric q k (equal (nat_cmp q k) e))
      | false ↦ λ e. inr (record {
        differ = λ same. false_true (sym e ∙ ap (λ n. eq_by_cmp nat_cmp n k) same ∙ itself k);
        told = e;
      })
    ] refl

pub apart_from : (q k : ℕ) → (q ≡ k → ⊥) → Apart q k
apart_from q k differ = elim (same_or_apart q k) [ inl same ↦ absurd (differ same) | inr apart ↦ apart ]

pub some_of : {X : Type 0} (o : Option X) → IsSome o → (x : X) × (o ≡ Some x)
some_of None h = absurd (false_true h)
some_of (Some x) h = (x, refl)

pub none_of : {X : Type 0} (o : Option X) → (IsSome o → ⊥) → o ≡ None
none_of None h = refl
none_of (Some x) h = absurd (h refl)

pub is_some_by : {X : Type 0} (o : Option X) (x : X) → o ≡ Some x → IsSome o
is_some_by o x e = ap is_some e

module _ {X : Type 0} (m : FinMap nat_cmp X) where
  pub at_put : (k : ℕ) (v : X) → get (insert m k v) k ≡ Some v
  at_put k v = get-insert nat_cmp_total m k v k ∙ ap (λ b. cond b (Some v) (get m k)) (itself k)

  pub beside_put : (k : ℕ) (v : X) (q : ℕ) → (q ≡ k → ⊥) → get (insert m k v) q ≡ get m q
  beside_put k v q differ =
      get-insert nat_cmp_total m k v q ∙ ap (λ b. cond b (Some v) (get m q)) ((apart_from q k differ).told)

  -- what stands there is what was put, or stood there before
  pub put_cases : (k : ℕ) (v : X) (q : ℕ) (x : X) → get (insert m k v) q ≡ Some x
      → ((q ≡ k) × (v ≡ x)) ⊎ (get m q ≡ Some x)
  put_cases k v q x e = elim (same_or_apart q k) [
    | inl same ↦ inl (same, same_Some v x (sym (at_put k v) ∙ ap (λ n. get (insert m k v) n) (sym same) ∙ e))
    | inr apart ↦ inr (sym (beside_put k v q apart.differ) ∙ e)
  ]

  pub at_cut : (k : ℕ) → get (remove m k) k ≡ None
  at_cut k = get-remove nat_cmp_total m k k ∙ ap (λ b. cond b None (get m k)) (itself k)

  pub beside_cut : (k q : ℕ) → (q ≡ k → ⊥) → get (remove m k) q ≡ get m q
  beside_cut k q differ =
      get-remove nat_cmp_total m k q ∙ ap (λ b. cond b None (get m q)) ((apart_from q k differ).told)

  -- what is left stood there before, at another number
  pub cut_cases : (k q : ℕ) (x : X) → get (remove m k) q ≡ Some x → (q ≡ k → ⊥) × (get m q ≡ Some x)
  cut_cases k q x e = elim (same_or_apart q k) [
    | inl same ↦ absurd (none-some x (sym (at_cut k) ∙ ap (λ n. get (remove m k) n) (sym same) ∙ e))
    | inr apart ↦ (apart.differ, sym (beside_cut k q apart.differ) ∙ e)
  ]

pub nothing_in : {X : Type 0} (q : ℕ) (x : X) → get (empty {X = X} {R = nat_cmp}) q ≡ Some x → ⊥
nothing_in q x e = none-some x (sym (get-empty nat_cmp q) ∙ e)
