-- Ascending tags are determined by the values of all keys.
use Rattle.std.proofs.Common.{◌≡◌, ℕ, true, false, cond, IsTrue, List, [], ◌∷◌, Some, None, refl, sym, ap, subst, ◌∙◌}
use Rattle.std.specs.Ordering.{is_eq, ordering_reverse}
use Rattle.std.specs.declared.cmp.Ordering.TheVariants.{Less, Equal, Greater}
use Rattle.std.specs.Cmp.{first_so, second_so}
use Rattle.std.specs.Cmp.Lexicographic.{nat_list_cmp_total, texts_ties}
use Rattle.std.specs.Str.{bytes_eq}
use Rattle.std.proofs.lemmas.Slice.Eq.{bytes_eq-Decides}
use Rattle.road_base.specs.Tags.{TagList, is_above, IsAscending, value_of}
use Rattle.ordered_lists.proofs.Comparisons.{less}
use Rattle.road_base.proofs.TagSearch.{text_cmp}

-- a text below all keys is below those above one of them
above_more : (k j : List ℕ) (ts : TagList) → text_cmp k j ≡ Less → IsTrue (is_above j ts) → IsTrue (is_above k ts)
above_more k j [] low up = refl
above_more k j (t ∷ ts) low up =
    let first : text_cmp k t.0 ≡ Less = nat_list_cmp_total.trans k j t.0 low (less _ (first_so _ _ up)) in
    rw first (second_so _ _ up)

above_greater : (k j : List ℕ) → text_cmp k j ≡ Less → bytes_eq j k ≡ false
above_greater k j less = texts_ties j k ∙ ap is_eq (nat_list_cmp_total.antisymm j k ∙ ap ordering_reverse less)

value_behind : (k : List ℕ) (t : List ℕ × List ℕ) (ts : TagList) → bytes_eq t.0 k ≡ false
    → value_of k (t ∷ ts) ≡ value_of k ts
value_behind k t ts differ = ap (λ b. cond b (Some t.1) (value_of k ts)) differ

value_here : (k : List ℕ) (t : List ℕ × List ℕ) (ts : TagList) → t.0 ≡ k → value_of k (t ∷ ts) ≡ Some t.1
value_here k t ts same = ap (λ b. cond b (Some t.1) (value_of k ts)) ((bytes_eq-Decides t.0 k).1 same)

-- a text below all keys has no value
no_value : (k : List ℕ) (ts : TagList) → IsTrue (is_above k ts) → value_of k ts ≡ None
no_value k [] up = refl
no_value k (t ∷ ts) up =
    let low : text_cmp k t.0 ≡ Less = less _ (first_so _ _ up) in
    value_behind k t ts (above_greater k t.0 low) ∙ no_value k ts (above_more k t.0 ts low (second_so _ _ up))

-- a first key that is below the others' keys stands only here
not_below : (t : List ℕ × List ℕ) (ts us : TagList) → IsTrue (is_above t.0 us)
    → ((k : List ℕ) → value_of k (t ∷ ts) ≡ value_of k us) → ⊥
not_below t ts us up same =
    let here : Some t.1 ≡ None = sym (value_here t.0 t ts refl) ∙ (same t.0 ∙ no_value t.0 us up) in
    cc

pair_same : (t u : List ℕ × List ℕ) → t.0 ≡ u.0 → t.1 ≡ u.1 → t ≡ u
pair_same t u key value = λ i. (key i, value i)

some_same : (a b : List ℕ) → Some a ≡ Some b → a ≡ b
some_same a b e = cc

-- behind equal first keys the values are equal too
others_same : (t u : List ℕ × List ℕ) (ts us : TagList) → t.0 ≡ u.0 → IsAscending (t ∷ ts) → IsAscending (u ∷ us)
    → ((k : List ℕ) → value_of k (t ∷ ts) ≡ value_of k (u ∷ us)) → (k : List ℕ) → value_of k ts ≡ value_of k us
others_same t u ts us key up vp same k =
    elim (bytes_eq t.0 k) as (λ r. bytes_eq t.0 k ≡ r → value_of k ts ≡ value_of k us) [
      | true ↦ λ e.
          let this : t.0 ≡ k = (bytes_eq-Decides t.0 k).0 e in
          let left : value_of k ts ≡ None = subst (λ (q : List ℕ). value_of q ts ≡ None) this (no_value t.0 ts up) in
          let right : value_of k us ≡ None = subst (λ (q : List ℕ). value_of q us ≡ None) (sym key ∙ this)
          (no_value u.0 us vp) in
          left ∙ sym right
      | false ↦ λ e.
          let other : bytes_eq u.0 k ≡ false = subst (λ (q : List ℕ). bytes_eq q k ≡ false) key e in
          sym (value_behind k t ts e) ∙ (same k ∙ value_behind k u us other)
    ] refl

pub same_tags : (ts us : TagList) → IsAscending ts → IsAscending us → ((k : List ℕ) → value_of k ts ≡ value_of k us)
    → ts ≡ us
same_tags [] [] up vp same = refl
same_tags [] (u ∷ us) up vp same = absurd (not_below u us [] refl (λ k. sym (same k)))
same_tags (t ∷ ts) [] up vp same = absurd (not_below t ts [] refl same)
same_tags (t ∷ ts) (u ∷ us) up vp same =
    elim (text_cmp t.0 u.0) as (λ r. text_cmp t.0 u.0 ≡ r → t ∷ ts ≡ u ∷ us) [
      | Less ↦ λ e.
          let below : IsTrue (is_above t.0 (u ∷ us)) = rw e vp in
          absurd (not_below t ts (u ∷ us) below same)
      | Equal ↦ λ e.
          let key : t.0 ≡ u.0 = (bytes_eq-Decides t.0 u.0).0 (texts_ties t.0 u.0 ∙ ap is_eq e) in
          let value : t.1 ≡ u.1 = some_same t.1 u.1
          (sym (value_here t.0 t ts refl) ∙ (same t.0 ∙ value_here t.0 u us (sym key))) in
          let first : t ≡ u = pair_same t u key value in
          let others : ts ≡ us = same_tags ts us (ascending t.0 ts up) (ascending u.0 us vp)
          (others_same t u ts us key up vp same) in
          cc
      | Greater ↦ λ e.
          let less : text_cmp u.0 t.0 ≡ Less = nat_list_cmp_total.antisymm u.0 t.0 ∙ ap ordering_reverse e in
          let below : IsTrue (is_above u.0 (t ∷ ts)) = rw less up in
          absurd (not_below u us (t ∷ ts) below (λ k. sym (same k)))
    ] refl
  where
    ascending : (k : List ℕ) (ts : TagList) → IsTrue (is_above k ts) → IsAscending ts
    ascending k [] up = refl
    ascending k (t ∷ ts) up = second_so _ _ up
