-- What a binary search finds among ascending tags.
use Rattle.std.proofs.Common.{◌≡◌, ℕ, zero, suc, ◌<◌, true, false, IsTrue, List, [], ◌∷◌, length, get_or, Some, None}
use Rattle.std.proofs.Common.{Err, bytes_eq, refl, inl, inr, sym, ap, subst, ◌∙◌, arith, add-one}
use Rattle.std.specs.Ordering.{nat_cmp, is_lt, is_eq, ordering_index, ordering_reverse}
use Rattle.std.specs.declared.cmp.Ordering.{Ordering}
use Rattle.std.specs.declared.cmp.Ordering.TheVariants.{Less, Equal, Greater}
use Rattle.std.specs.Cmp.{first_so, second_so, alike_right}
use Rattle.std.specs.Cmp.Lexicographic.{slice_cmp, nat_list_cmp_total, texts_ties}
use Rattle.std.specs.List.Sorted.{IsBinarySearchResult, IsNonDecreasingBy}
use Rattle.std.proofs.lemmas.List.Sorted.{searchable_from_sorted}
use Rattle.std.proofs.lemmas.Bool.{cases_lt}
use Rattle.road_base.specs.Tags.{TagList, is_above, IsAscending, value_of}
use Rattle.ordered_lists.proofs.Comparisons.{less}

abbrev pub text_cmp : List ℕ → List ℕ → Ordering
text_cmp = slice_cmp nat_cmp

-- tags that stand above a text ascend
pub ascending_of_above : (k : List ℕ) (ts : TagList) → IsTrue (is_above k ts) → IsAscending ts
ascending_of_above k [] up = refl
ascending_of_above k (t ∷ ts) up = second_so _ _ up

-- a text below the first key is below each key
pub below_each : (k : List ℕ) (ts : TagList) → IsTrue (is_above k ts) → (i : ℕ) (d : List ℕ × List ℕ) → i < length ts
    → text_cmp k (get_or ts i d).0 ≡ Less
below_each k [] up i d within = absurd (omega arith)
below_each k (t ∷ ts) up zero d within = less _ (first_so _ _ up)
below_each k (t ∷ ts) up (suc i) d within =
    nat_list_cmp_total.trans k t.0 (get_or ts i d).0 (less _ (first_so _ _ up))
    (below_each t.0 ts (second_so _ _ up) i d (omega arith))

-- each key is below the next
next_above : (ts : TagList) → IsAscending ts → (i : ℕ) (d : List ℕ × List ℕ) → suc i < length ts
    → text_cmp (get_or ts i d).0 (get_or ts (suc i) d).0 ≡ Less
next_above [] up i d within = absurd (omega arith)
next_above (t ∷ ts) up zero d within = below_each t.0 ts up 0 d (omega arith)
next_above (t ∷ ts) up (suc i) d within = next_above ts (ascending_of_above t.0 ts up) i d (omega arith)

greater_is_not_less : (r : Ordering) → r ≡ Less → is_lt (ordering_reverse r) ≡ false
greater_is_not_less Less e = refl
greater_is_not_less Equal e = cc
greater_is_not_less Greater e = cc

-- the comparisons with a key rise along the tags, as a binary search asks
comparisons_rise : (ts : TagList) → IsAscending ts → (k : List ℕ)
    → IsNonDecreasingBy (λ t. ordering_index (text_cmp t.0 k)) ts
comparisons_rise ts up k =
    searchable_from_sorted nat_list_cmp_total (λ t. t.0) ts k (λ i d low high.
    rw add-one (subst (λ r. is_lt r ≡ false) (sym
    (nat_list_cmp_total.antisymm (get_or ts (suc i) d).0 (get_or ts i d).0))
    (greater_is_not_less _ (next_above ts up i d (omega arith)))))

-- texts that tie are equal, and texts that don't tie differ
equal_from_cmp : (a b : List ℕ) → text_cmp a b ≡ Equal → bytes_eq a b ≡ true
equal_from_cmp a b e = texts_ties a b ∙ ap is_eq e

pub differ_from_cmp : (a b : List ℕ) → is_eq (text_cmp a b) ≡ false → bytes_eq a b ≡ false
differ_from_cmp a b e = texts_ties a b ∙ e

-- a key that is found at a place has the value that stands there
pub found_value : (k : List ℕ) (ts : TagList) → IsAscending ts → (i : ℕ) (d : List ℕ × List ℕ) → i < length ts
    → text_cmp (get_or ts i d).0 k ≡ Equal → value_of k ts ≡ Some (get_or ts i d).1
found_value k [] up i d within same = absurd (omega arith)
found_value k (t ∷ ts) up zero d within same = rw (equal_from_cmp t.0 k same)
found_value k (t ∷ ts) up (suc i) d within same =
    let below : text_cmp t.0 k ≡ Less = sym (alike_right nat_list_cmp_total (get_or ts i d).0 k t.0 same)
    ∙ below_each t.0 ts up i d (omega arith) in
    rw (differ_from_cmp t.0 k (ap is_eq below)) (found_value k ts (ascending_of_above t.0 ts up) i d (omega arith) same)

-- a key that differs from each has no value
pub no_value : (k : List ℕ) (ts : TagList) → ((i : ℕ) (d : List ℕ × List ℕ) → i < length ts
    → is_eq (text_cmp (get_or ts i d).0 k) ≡ false) → value_of k ts ≡ None
no_value k [] differ = refl
no_value k (t ∷ ts) differ = rw (differ_from_cmp t.0 k (differ 0 t (omega arith)))
    (no_value k ts (λ i d within. differ (suc i) d (omega arith)))

-- where a binary search finds no place for a key, the key has no value
pub missed_value : (k : List ℕ) (ts : TagList) → IsAscending ts → (i : ℕ)
    → IsBinarySearchResult (λ t. text_cmp t.0 k) ts (Err i) → value_of k ts ≡ None
missed_value k ts up i parted =
    let both = parted (comparisons_rise ts up k) in
    no_value k ts (λ j d within. elim (cases_lt j i) [
      | inl before ↦ ap is_eq (both.0 j d (omega arith) before)
      | inr behind ↦ ap is_eq (both.1 j d behind within)
    ])
