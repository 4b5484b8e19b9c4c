-- Whether a number is among the values of an ordered map.
use Rattle.std.proofs.Common.{◌≡◌, ◌∙◌, ◌||◌, ℕ, Bool, true, false, List, [], ◌∷◌, refl, sym, ap, subst}
use Rattle.std.specs.Prelude.{Option, Some, None, nat_eq, T, not}
use Rattle.std.specs.Option.{option_map}
use Rattle.std.specs.List.{list_any, IsDistinct}
use Rattle.std.specs.Ordering.{nat_cmp, is_eq, eq_by_cmp}
use Rattle.std.specs.Cmp.{nat_cmp_total, tied_itself, eq_by_cmp_equiv, unsigned_Decides}
use Rattle.std.specs.Map.{lookup, keys_of, values_of}
use Rattle.std.specs.BTreeMap as tree
use Rattle.std.specs.BTreeMap.{BTreeMap, is_at}
use Rattle.std.proofs.lemmas.Map.{lookup-none}
use Rattle.std.proofs.lemmas.Map.Entries.{none_past_head, lookup_head, lookup_tail}
use Rattle.std.proofs.lemmas.Map.Keys.{IsDistinct-from_sorted, IsDistinct-tail}
use Rattle.std.proofs.lemmas.Option.{none-some, same_Some}
use Rattle.road_base.specs.declared.ids.Sequence.{Sequence}
use Rattle.pinned_readers.specs.PinnedRuns.{IsPinnedNumber}
use Rattle.pinned_readers.specs.Tables.{pins_in}
use Rattle.pinned_readers.proofs.KeyedMaps.{get_numbered}
use Rattle.pinned_readers.proofs.NumberKeys.{reader_keys}

true_not_false : false ≡ true → {A : Type 0} → A
true_not_false e = absurd (subst (λ b. T (not b)) e tt)

module _ {X : Type 0} (p : X → Bool) where
  -- an entry whose value passes is found at its key
  record Found (es : List (ℕ × X)) : Type 0 where
    key : ℕ
    value : X
    at : lookup (is_at (nat_cmp key)) es ≡ Some value
    passes : p value ≡ true

  apart : (k : ℕ) (e : ℕ × X) (es : List (ℕ × X)) (v : X) → IsDistinct (eq_by_cmp nat_cmp) (keys_of (e ∷ es))
      → lookup (is_at (nat_cmp k)) es ≡ Some v → is_eq (nat_cmp k e.0) ≡ false
  apart k e es v d found =
      elim (is_eq (nat_cmp k e.0)) as (λ b. is_eq (nat_cmp k e.0) ≡ b → b ≡ false) [
        | true ↦ λ t. absurd (none-some v (sym (lookup-none (is_at (nat_cmp k)) es
            (none_past_head (eq_by_cmp_equiv nat_cmp_total) k e es d t)) ∙ found))
        | false ↦ λ t. refl
      ] refl

  some_found : (es : List (ℕ × X)) → IsDistinct (eq_by_cmp nat_cmp) (keys_of es) → list_any p (values_of es) ≡ true
      → Found es
  some_found [] d h = true_not_false h
  some_found (e ∷ es) d h =
      elim (p e.1) as (λ b. p e.1 ≡ b → (b || list_any p (values_of es)) ≡ true → Found (e ∷ es)) [
        | true ↦ λ is _. record {
          key = e.0;
          value = e.1;
          at = lookup_head (is_at (nat_cmp e.0)) e es (ap is_eq (tied_itself nat_cmp_total e.0));
          passes = is;
        }
        | false ↦ λ _ rest.
            let r = some_found es (IsDistinct-tail (eq_by_cmp nat_cmp) e.0 (keys_of es) d) rest in record {
              key = r.key;
              value = r.value;
              at = lookup_tail (is_at (nat_cmp r.key)) e es (apart r.key e es r.value d r.at) ∙ r.at;
              passes = r.passes;
            }
      ] refl h

  found_some : (test : ℕ → Bool) (es : List (ℕ × X)) (v : X) → lookup test es ≡ Some v → p v ≡ true
      → list_any p (values_of es) ≡ true
  found_some test [] v found is = absurd (none-some v found)
  found_some test (e ∷ es) v found is =
      elim (test e.0) as (λ b. test e.0 ≡ b → (p e.1 || list_any p (values_of es)) ≡ true) [
        | true ↦ λ t. ap (λ b. b || list_any p (values_of es))
            (ap p (same_Some e.1 v (sym (lookup_head test e es t) ∙ found)) ∙ is)
        | false ↦ λ t. elim (p e.1) as (λ b. (b || list_any p (values_of es)) ≡ true) [
          | true ↦ refl
          | false ↦ found_some test es v (sym (lookup_tail test e es t) ∙ found) is
        ]
      ] refl

from_mapped : (o : Option Sequence) (n : ℕ) → option_map (λ s. s.0) o ≡ Some n
    → (s : Sequence) × (o ≡ Some s) × (s.0 ≡ n)
from_mapped None n e = absurd (none-some n e)
from_mapped (Some s) n e = (s, refl, same_Some s.0 n e)

pub number_among : (m : BTreeMap ℕ Sequence) (n : ℕ) → tree.IsOrdered nat_cmp m
    → list_any (λ s. nat_eq s.0 n) (tree.values m) ≡ true → IsPinnedNumber (pins_in m) n
number_among m n ordered any =
    let once = IsDistinct-from_sorted nat_cmp (keys_of m.entries) ordered in
    let r = some_found (λ s. nat_eq s.0 n) m.entries once any in (
      r.key,
      get_numbered reader_keys (λ s. s.0) r.key m.entries ∙ ap (option_map (λ s. s.0)) r.at
          ∙ ap Some ((unsigned_Decides r.value.0 n).0 r.passes),
    )

pub among_number : (m : BTreeMap ℕ Sequence) (n : ℕ) → IsPinnedNumber (pins_in m) n
    → list_any (λ s. nat_eq s.0 n) (tree.values m) ≡ true
among_number m n pinned =
    let r = from_mapped (lookup (is_at (nat_cmp pinned.0)) m.entries) n
    (sym (get_numbered reader_keys (λ s. s.0) pinned.0 m.entries) ∙ pinned.1) in
    found_some (λ s. nat_eq s.0 n) (is_at (nat_cmp pinned.0)) m.entries r.0 r.1 ((unsigned_Decides r.0.0 n).1 r.2)
