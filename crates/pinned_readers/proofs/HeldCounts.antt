-- How many followers are held.
use Rattle.std.proofs.Common.{◌≡◌, ◌∙◌, ◌||◌, ◌≤◌, ℕ, Bool, true, false, cond, List, [], ◌∷◌, map, refl, sym}
use Rattle.std.proofs.Common.{ap, arith}
use Rattle.std.specs.Prelude.{Some, T}
use Rattle.std.specs.Ordering.{nat_cmp, is_lt, is_eq, eq_by_cmp}
use Rattle.std.specs.declared.cmp.Ordering.{Ordering}
use Rattle.std.specs.declared.cmp.Ordering.TheVariants.{Less, Equal, Greater}
use Rattle.std.specs.Cmp.{nat_cmp_total, eq_by_cmp_equiv}
use Rattle.std.specs.List.{list_any, IsDistinct, AllByRecursion}
use Rattle.std.specs.Set.{is_member}
use Rattle.std.specs.FinMap.{FinMap, get, len, keys, values, entries, entries_sorted, find, is_sorted}
use Rattle.std.specs.FinMap.{contains_key-keys, get-entries, len-entries}
use Rattle.std.specs.FinMap.Entries.{below_all}
use Rattle.std.proofs.lemmas.Bool.{and_parts}
use Rattle.std.proofs.lemmas.List.{length-map}
use Rattle.std.proofs.lemmas.Option.{none-some, same_Some}
use Rattle.std.proofs.lemmas.Map.Keys.{IsDistinct-cons}
use Rattle.std.proofs.lemmas.Map.Made.{length-le_from_is_member}
use Rattle.pinned_readers.specs.PinnedRuns.{most_readers}
use Rattle.pinned_readers.specs.Followers.{Followers, AreNeeded}
use Rattle.pinned_readers.proofs.NumberMaps.{false_true, itself, some_of}

told : (b : Bool) → T b → b ≡ true
told true t = refl
told false t = absurd t

not_equal : (r : Ordering) → is_lt r ≡ true → is_eq r ≡ false
not_equal Less e = refl
not_equal Equal e = absurd (false_true e)
not_equal Greater e = refl

module _ {X : Type 0} where
  all_apart : (x : ℕ) (es : List (ℕ × X)) → below_all nat_cmp x es ≡ true
      → AllByRecursion (λ y. eq_by_cmp nat_cmp x y ≡ false) (map (λ e. e.0) es)
  all_apart x [] h = tt
  all_apart x (e ∷ es) h =
      let parts = and_parts _ _ h in (not_equal (nat_cmp x e.0) parts.0, all_apart x es parts.1)

  distinct : (es : List (ℕ × X)) → is_sorted nat_cmp es ≡ true → IsDistinct (eq_by_cmp nat_cmp) (map (λ e. e.0) es)
  unfolding IsDistinct
  distinct [] h = tt
  distinct (e ∷ es) h =
      let parts = and_parts _ _ h in
      IsDistinct-cons (eq_by_cmp nat_cmp) e.0 (map (λ e. e.0) es) (all_apart e.0 es parts.0) (distinct es parts.1)

  distinct_keys : (m : FinMap nat_cmp X) → IsDistinct (eq_by_cmp nat_cmp) (keys m)
  distinct_keys m = distinct (entries m) (told _ (entries_sorted m))

among : (q : ℕ) (es : List (ℕ × ℕ)) (n : ℕ) → find nat_cmp q es ≡ Some n
    → list_any (eq_by_cmp nat_cmp n) (map (λ e. e.1) es) ≡ true
among q [] n h = absurd (none-some n h)
among q (e ∷ es) n h =
    elim (eq_by_cmp nat_cmp q e.0) as (λ b. cond b (Some e.1) (find nat_cmp q es) ≡ Some n
    → (eq_by_cmp nat_cmp n e.1 || list_any (eq_by_cmp nat_cmp n) (map (λ e. e.1) es)) ≡ true) [
      | true ↦ λ is. ap (λ b. b || list_any (eq_by_cmp nat_cmp n) (map (λ e. e.1) es))
          (ap (λ k. eq_by_cmp nat_cmp n k) (same_Some e.1 n is) ∙ itself n)
      | false ↦ λ rest. elim (eq_by_cmp nat_cmp n e.1)
          as (λ b. (b || list_any (eq_by_cmp nat_cmp n) (map (λ e. e.1) es))
          ≡ true) [ true ↦ refl | false ↦ among q es n rest ]
    ] h

-- there are no more numbers of pins than pins
pub few_older : {F Fixed : Type 0} (fixed : F → Fixed) (s : Followers F) → AreNeeded fixed s
    → len s.older ≤ most_readers
few_older {F} fixed s are =
    let all : (q : ℕ) → is_member (eq_by_cmp nat_cmp) (keys s.older) q ≡ true
    → is_member (eq_by_cmp nat_cmp) (values s.pins) q ≡ true =
    λ q member. let f = some_of (get s.older q) (contains_key-keys s.older q ∙ member) in
    let p = are.needed q f.0 f.1 in
    among p.0 (entries s.pins) q (sym (get-entries s.pins p.0) ∙ p.1) in
    let fits = length-le_from_is_member (eq_by_cmp_equiv nat_cmp_total) (keys s.older) (values s.pins)
    (distinct_keys s.older) all in
    let older = len-entries s.older in
    let pins = len-entries s.pins in
    let few = are.few in
    omega (
      arith,
      fits,
      older,
      pins,
      few,
      length-map (entries s.older) (λ (e : ℕ × F). e.0),
      length-map (entries s.pins) (λ (e : ℕ × ℕ). e.1),
    )
