-- What stands from a key on, in runs, in a floor, and in what they come to.
use Rattle.std.proofs.Common.{◌≡◌, ℕ, zero, suc, ◌<◌, ◌≤◌, Bool, true, false, cond, not, IsTrue, List, [], ◌∷◌, map}
use Rattle.std.proofs.Common.{filter, drop, length, Option, None, refl, sym, ap, ◌∙◌, subst, arith, Ordering, T}
use Rattle.std.proofs.Common.{slice_index_or, inl, inr, take, ◌-◌}
use Rattle.std.specs.declared.cmp.Ordering.TheVariants.{Less, Equal}
use Rattle.std.specs.Ordering.{is_lt}
use Rattle.std.specs.Option.{option_or}
use Rattle.std.specs.Cmp.{IsTotalOrder}
use Rattle.std.specs.List.Sorted.{IsPartitionedBy, IsPartitionPoint}
use Rattle.std.proofs.lemmas.Bool.{and_parts, cases_lt}
use Rattle.std.proofs.lemmas.List.{take_all, length-drop}
use Rattle.std.specs.FinMap.{IsAntisymmetric, find}
use Rattle.std.specs.FinMap.Entries.{find-where_key, is_sorted-where_key}
use Rattle.ordered_lists.proofs.ListMembers.{In, in_get}
use Rattle.ordered_lists.proofs.Comparisons.{less}
use Rattle.layered_maps.specs.Layers.{Rise, laid}
use Rattle.layered_maps.specs.Maps.{from_key, over}
use Rattle.layered_maps.specs.Walks.{AllRise}
use Rattle.layered_maps.proofs.SplitPairs.{above_first}
use Rattle.layered_maps.proofs.FoundPairs.{same_found}
use Rattle.layered_maps.proofs.LayerPairs.{find_put_all, laid_rises}
use Rattle.layered_maps.proofs.OverPairs.{settled, find_over, over_rises}

told : (b : Bool) → T b → IsTrue b
told true t = refl
told false t = absurd t

-- what is behind the place before which a test fails, and from which on it holds, is what passes it
pub filter_behind : {A : Type 0} (p : A → Bool) (xs : List A) (i : ℕ)
    → ((j : ℕ) (d : A) → j < i → j < length xs → p (slice_index_or xs j d) ≡ false)
    → ((j : ℕ) (d : A) → i ≤ j → j < length xs → p (slice_index_or xs j d) ≡ true)
    → filter p xs ≡ drop i xs
filter_behind p [] zero low high = refl
filter_behind p [] (suc i) low high = refl
filter_behind p (x ∷ xs) zero low high =
    ap (λ b. cond b (x ∷ filter p xs) (filter p xs)) (high 0 x (omega arith) (omega arith))
    ∙ ap (λ l. x ∷ l) (filter_behind p xs zero (λ j d l m. absurd (omega arith))
    (λ j d l m. high (suc j) d (omega arith) (omega arith)))
filter_behind p (x ∷ xs) (suc i) low high =
    ap (λ b. cond b (x ∷ filter p xs) (filter p xs)) (low 0 x (omega arith) (omega arith))
    ∙ filter_behind p xs i (λ j d l m. low (suc j) d (omega arith) (omega arith))
    (λ j d l m. high (suc j) d (omega arith) (omega arith))

pub filter_mapped : {A B : Type 0} (f : A → B) (p : B → Bool) (xs : List A)
    → filter p (map f xs) ≡ map f (filter (λ x. p (f x)) xs)
filter_mapped f p [] = refl
filter_mapped f p (x ∷ xs) =
    elim (p (f x)) as (λ b. cond b (f x ∷ filter p (map f xs)) (filter p (map f xs))
    ≡ map f (cond b (x ∷ filter (λ x. p (f x)) xs) (filter (λ x. p (f x)) xs))) [
      | true ↦ ap (λ l. f x ∷ l) (filter_mapped f p xs)
      | false ↦ filter_mapped f p xs
    ]

module _ {K : Type 0} (R : K → K → Ordering) (total : IsTotalOrder R) (k : K) where
  alike : (q x : K) → R q x ≡ Equal → not (is_lt (R x k)) ≡ not (is_lt (R q k))
  alike q x e = ap (λ r. not (is_lt r)) (sym (total.congr q x k e))

  module _ {V : Type 0} where
    pub found_from : (q : K) (pairs : List (K × V))
        → find R q (from_key R k pairs) ≡ cond (not (is_lt (R q k))) (find R q pairs) None
    found_from q pairs = find-where_key R (λ j. not (is_lt (R j k))) q (λ x e. alike q x e) pairs

    pub from_rises : (pairs : List (K × V)) → Rise R pairs → Rise R (from_key R k pairs)
    from_rises pairs up = told _ (is_sorted-where_key R (λ j. not (is_lt (R j k))) pairs (subst T (sym up) tt))

    pub all_from_rise : (runs : List (List (K × V))) → AllRise R runs → AllRise R (map (from_key R k) runs)
    all_from_rise [] up = tt
    all_from_rise (run ∷ runs) up = (from_rises run up.0, all_from_rise runs up.1)

    either_from : (b : Bool) (o p : Option V)
        → option_or (cond b o None) (cond b p None) ≡ cond b (option_or o p) None
    either_from true o p = refl
    either_from false o p = refl

    laid_found : (q : K) (runs : List (List (K × V)))
        → find R q (laid R (map (from_key R k) runs)) ≡ cond (not (is_lt (R q k))) (find R q (laid R runs)) None
    laid_found q [] = none_either (not (is_lt (R q k)))
      where
        none_either : (b : Bool) → ◌≡◌ {A = Option V} None (cond b None None)
        none_either true = refl
        none_either false = refl
    laid_found q (run ∷ runs) =
        find_put_all R total q (from_key R k run) (laid R (map (from_key R k) runs))
        ∙ ap (λ o. option_or o (find R q (laid R (map (from_key R k) runs)))) (found_from q run)
        ∙ ap (option_or (cond (not (is_lt (R q k))) (find R q run) None)) (laid_found q runs)
        ∙ either_from (not (is_lt (R q k))) (find R q run) (find R q (laid R runs))
        ∙ ap (λ o. cond (not (is_lt (R q k))) o None) (sym (find_put_all R total q run (laid R runs)))

    -- runs from a key on come to what they come to from that key on
    pub laid_from : IsAntisymmetric R → (runs : List (List (K × V)))
        → laid R (map (from_key R k) runs) ≡ from_key R k (laid R runs)
    laid_from exact runs =
        same_found R total exact (laid R (map (from_key R k) runs)) (from_key R k (laid R runs))
        (laid_rises R total (map (from_key R k) runs)) (from_rises (laid R runs) (laid_rises R total runs))
        (λ q. laid_found q runs ∙ sym (found_from q (laid R runs)))

    settled_from : (b : Bool) (f : Option (Option V)) (o : Option V)
        → settled (cond b f None) (cond b o None) ≡ cond b (settled f o) None
    settled_from true f o = refl
    settled_from false f o = refl

  -- what lies over a floor, and the floor, from a key on
  pub over_from : IsAntisymmetric R → {V : Type 0} (more : List (K × Option V)) (pairs : List (K × V)) → Rise R pairs
      → over R (from_key R k more) (from_key R k pairs) ≡ from_key R k (over R more pairs)
  over_from exact more pairs up =
      same_found R total exact (over R (from_key R k more) (from_key R k pairs)) (from_key R k (over R more pairs))
      (over_rises R total (from_key R k more) (from_key R k pairs) (from_rises pairs up))
      (from_rises (over R more pairs) (over_rises R total more pairs up))
      (λ q. find_over R total q (from_key R k more) (from_key R k pairs)
      ∙ (λ i. settled (found_from q more i) (found_from q pairs i))
      ∙ settled_from (not (is_lt (R q k))) (find R q more) (find R q pairs)
      ∙ ap (λ o. cond (not (is_lt (R q k))) o None) (sym (find_over R total q more pairs))
      ∙ sym (found_from q (over R more pairs)))

-- ---- a search among what is in order

module _ {E K V : Type 0} (f : E → K × V) (R : K → K → Ordering) (total : IsTotalOrder R) (k : K) where
  in_mapped : (xs : List E) (x : E) → In x xs → In (f x) (map f xs)
  in_mapped [] x i = absurd i
  in_mapped (y ∷ xs) x (inl e) = inl (ap f e)
  in_mapped (y ∷ xs) x (inr i) = inr (in_mapped xs x i)

  far_pairs : (es : List E) → Rise R (map f es) → (i j : ℕ) (d : E) → i < j → j < length es
      → R (f (slice_index_or es i d)).0 (f (slice_index_or es j d)).0 ≡ Less
  far_pairs [] up i j d before within = absurd (omega arith)
  far_pairs (x ∷ es) up i zero d before within = absurd (omega arith)
  far_pairs (x ∷ es) up zero (suc j) d before within =
      above_first R (f x) (map f es) up (f (slice_index_or es j d))
      (in_mapped es (slice_index_or es j d) (in_get es j d (omega arith)))
  far_pairs (x ∷ es) up (suc i) (suc j) d before within =
      far_pairs es (and_parts _ _ up).1 i j d (omega arith) (omega arith)

  -- those of lower keys stand before all others
  pub pairs_parted : (es : List E) → Rise R (map f es) → IsPartitionedBy (λ e. is_lt (R (f e).0 k)) es
  pairs_parted es up i j d le l h = elim (cases_lt i j) [
    | inl m ↦ ap is_lt (total.trans (f (slice_index_or es i d)).0 (f (slice_index_or es j d)).0 k
        (far_pairs es up i j d m l) (less _ h))
    | inr ge ↦ let e : j ≡ i = omega arith in subst (λ n. is_lt (R (f (slice_index_or es n d)).0 k) ≡ true) e h
  ]

  -- what is behind the place that parts them
  pub behind_point : (es : List E) (i : ℕ)
      → IsPartitionPoint (λ e. is_lt (R (f e).0 k) ≡ true) (λ e. is_lt (R (f e).0 k) ≡ false) es i
      → map f (drop i es) ≡ from_key R k (map f es)
  behind_point es i point =
      sym (filter_mapped f (λ p. not (is_lt (R p.0 k))) es
      ∙ ap (map f) (filter_behind (λ e. not (is_lt (R (f e).0 k))) es i
      (λ j d l m. ap not (point.0 j d (omega arith) l)) (λ j d l m. ap not (point.1 j d l m))))

pub all_behind : {X : Type 0} (i : ℕ) (xs : List X) → take (length xs - i) (drop i xs) ≡ drop i xs
all_behind i xs = take_all (length xs - i) (drop i xs) (omega (arith, length-drop i xs))
