-- One step of a walk: over some runs, and over these and a floor.
use Rattle.std.proofs.Common.{◌≡◌, ◌≢◌, ℕ, zero, suc, ◌+◌, ◌<◌, ◌≤◌, IsTrue, List, [], ◌∷◌, ◌++◌, map, take, drop}
use Rattle.std.proofs.Common.{length}
use Rattle.std.proofs.Common.{Option, Some, None, cond, inl, inr, refl, sym, ap, ◌∙◌, subst, arith, Ordering}
use Rattle.std.proofs.Common.{slice_index_or, slice_set}
use Rattle.std.specs.declared.cmp.Ordering.TheVariants.{Less, Equal}
use Rattle.std.specs.Ordering.{is_eq}
use Rattle.std.specs.declared.rc.Rc.{Rc}
use Rattle.std.specs.Cmp.{IsTotalOrder}
use Rattle.std.specs.FinMap.{IsAntisymmetric, find}
use Rattle.std.proofs.lemmas.Cmp.{tied_itself}
use Rattle.ordered_lists.specs.Orders.{rises}
use Rattle.ordered_lists.proofs.ListMembers.{In}
use Rattle.layered_maps.specs.Layers.{Rise, laid, values_of}
use Rattle.layered_maps.specs.Maps.{keyed, over}
use Rattle.layered_maps.specs.Walks.{AllRise, IsDue, IsNotDue, IsTaken, behind_key, first_at, first_key, run_at}
use Rattle.layered_maps.proofs.FoundPairs.{pairs_rise, keys_rise}
use Rattle.layered_maps.proofs.SplitPairs.{above_first}
use Rattle.layered_maps.proofs.WalkedPairs.{From, all_from, behind_rises, eight_runs, first_found, taken}
use Rattle.layered_maps.proofs.WalkedPairs.{walked_put, walked_gone, walked_floor}

-- eight runs that are those at their places
pub eight_same : {K V : Type 0} (R : K → K → Ordering) (runs : List (List (K × V))) (a b c d e f g h : List (K × V))
    → length runs ≤ 8 → a ≡ run_at 0 runs → b ≡ run_at 1 runs → c ≡ run_at 2 runs → d ≡ run_at 3 runs
    → e ≡ run_at 4 runs → f ≡ run_at 5 runs → g ≡ run_at 6 runs → h ≡ run_at 7 runs
    → laid R (a ∷ b ∷ c ∷ d ∷ e ∷ f ∷ g ∷ h ∷ []) ≡ laid R runs
eight_same R runs a b c d e f g h few p q r s t u v w =
    (λ i. laid R (p i ∷ q i ∷ r i ∷ s i ∷ t i ∷ u i ∷ v i ∷ w i ∷ [])) ∙ eight_runs R runs few

module _ {K V : Type 0} (R : K → K → Ordering) (total : IsTotalOrder R) (exact : IsAntisymmetric R) where
  has_first : (k : K) (l : List (K × V)) → first_key l ≡ Some k → find R k l ≢ None
  has_first k [] first none = cc
  has_first k (p ∷ l) first none =
      let same : p.0 ≡ k = cc in
      let tie : R k p.0 ≡ Equal = subst (λ j. R k j ≡ Equal) (sym same) (tied_itself total k) in
      some_not (sym (ap (λ r. cond (is_eq r) (Some p.1) (find R k l)) tie) ∙ none)
    where
      some_not : Some p.1 ≢ None
      some_not e = cc

  -- the first entry of all runs, taken off
  pub taken_first : (k : K) (runs : List (List (K × V))) (o : Option V) → AllRise R runs
      → first_key (laid R runs) ≡ Some k → o ≡ first_at R k runs
      → IsTaken k o (laid R runs) (laid R (map (behind_key R k) runs))
  taken_first k runs o up first is =
      let from = all_from R total k runs up
      (subst (From R total k) (sym first) (λ e. not_less (sym (tied_itself total k) ∙ e))) in
      let found = is ∙ first_found R total exact k runs up from in
      elim o as (λ o. o ≡ find R k (laid R runs) → IsTaken k o (laid R runs) (laid R (map (behind_key R k) runs))) [
        | None ↦ λ e. has_first k (laid R runs) first (sym e)
        | Some v ↦ λ e. taken R total exact k v runs up first (sym e)
      ] found
    where
      not_less : Equal ≢ Less
      not_less e = cc

-- ---- over a floor

-- the values that are left
abbrev pub left : {K V : Type 0} → (V → K) → (K → K → Ordering) → List (K × Option V) → List V → List V
left key R changes rest = map (λ p. p.1) (over R changes (map (keyed key) rest))

module _ {K V : Type 0} (key : V → K) (R : K → K → Ordering) (total : IsTotalOrder R) (exact : IsAntisymmetric R) where
  due_from : (least : Option K) (k : K) (rest : List V) → IsDue key R least k rest
      → (least ≡ Some k) × From R total k (first_key (map (keyed key) rest))
  due_from least k [] h = (h, tt)
  due_from least k (v ∷ rest) h = h

  split_key : (changes : List (K × Option V)) (o : Option (Option V)) (new : List (K × Option V)) (k : K) (x : Option V)
      → o ≡ Some x → IsTaken k o changes new → changes ≡ (k, x) ∷ new
  split_key changes None new k x e h = cc
  split_key changes (Some y) new k x e h = let same : y ≡ x = cc in h ∙ ap (λ z. (k, z) ∷ new) same

  module _ (changes new : List (K × Option V)) (rest behind : List V) (k : K) (up : IsTrue (rises R (map key rest)))
      (rise : Rise R changes) (due : IsDue key R (first_key changes) k rest)
      (is : map (keyed key) behind ≡ behind_key R k (map (keyed key) rest)) where
    from : From R total k (first_key (map (keyed key) rest))
    from = (due_from (first_key changes) k rest due).1

    pairs_up : Rise R (map (keyed key) rest)
    pairs_up = pairs_rise key R total rest up

    pub still_rises : IsTrue (rises R (map key behind))
    still_rises = keys_rise key R total behind
        (subst (Rise R) (sym is) (behind_rises R total exact k (map (keyed key) rest) pairs_up))

    pub step_put : (v : V) → IsTaken k (Some (Some v)) changes new → left key R changes rest ≡ v ∷ left key R new behind
    step_put v h =
        ap (λ c. left key R c rest) h
        ∙ ap (map (λ (p : K × V). p.1)) (walked_put R total exact k new (map (keyed key) rest) pairs_up from v
        (subst (Rise R) h rise))
        ∙ ap (λ l. v ∷ map (λ (p : K × V). p.1) (over R new l)) (sym is)

    pub step_gone : IsTaken k (Some None) changes new → left key R changes rest ≡ left key R new behind
    step_gone h =
        ap (λ c. left key R c rest) h
        ∙ ap (map (λ (p : K × V). p.1)) (walked_gone R total exact k new (map (keyed key) rest) pairs_up from
        (subst (Rise R) h rise))
        ∙ ap (λ l. map (λ (p : K × V). p.1) (over R new l)) (sym is)

  -- where nothing has changed before the next value of the floor
  pub step_floor : (changes : List (K × Option V)) (v : V) (rest : List V) → Rise R changes
      → IsTrue (rises R (map key (v ∷ rest))) → IsNotDue key R (first_key changes) (v ∷ rest)
      → left key R changes (v ∷ rest) ≡ v ∷ left key R changes rest
  step_floor [] v rest rise up none = refl
  step_floor (x ∷ changes) v rest rise up none =
      ap (map (λ (p : K × V). p.1)) (walked_floor R total exact (x ∷ changes) (key v, v) (map (keyed key) rest)
      (pairs_rise key R total (v ∷ rest) up) above)
    where
      above : (p : K × Option V) → In p (x ∷ changes) → R (key v) p.0 ≡ Less
      above p (inl e) = subst (λ (q : K × Option V). R (key v) q.0 ≡ Less) (sym e) none
      above p (inr i) = total.trans (key v) x.0 p.0 none (above_first R x changes rise p i)

  -- where nothing is left
  pub step_end : (changes : List (K × Option V)) → IsNotDue key R (first_key changes) [] → left key R changes [] ≡ []
  step_end [] none = refl
  step_end (x ∷ changes) none = absurd none

-- ---- items that are altered in turn

module _ {A B : Type 0} (f : A → B) (h : B → B) where
  map_set : (xs : List A) (i : ℕ) (y : A) → map f (slice_set xs i y) ≡ slice_set (map f xs) i (f y)
  map_set [] i y = refl
  map_set (x ∷ xs) zero y = refl
  map_set (x ∷ xs) (suc i) y = ap (λ l. f x ∷ l) (map_set xs i y)

  map_get : (xs : List A) (i : ℕ) (d : A) → slice_index_or (map f xs) i (f d) ≡ f (slice_index_or xs i d)
  map_get [] i d = refl
  map_get (x ∷ xs) zero d = refl
  map_get (x ∷ xs) (suc i) d = map_get xs i d

  next_there : (old : List B) (i : ℕ) (d : B)
      → slice_index_or (map h (take i old) ++ drop i old) i d ≡ slice_index_or old i d
  next_there [] zero d = refl
  next_there [] (suc i) d = refl
  next_there (x ∷ old) zero d = refl
  next_there (x ∷ old) (suc i) d = next_there old i d

  next_set : (old : List B) (i : ℕ) (d : B)
      → slice_set (map h (take i old) ++ drop i old) i (h (slice_index_or old i d))
      ≡ map h (take (suc i) old) ++ drop (suc i) old
  next_set [] zero d = refl
  next_set [] (suc i) d = refl
  next_set (x ∷ old) zero d = refl
  next_set (x ∷ old) (suc i) d = ap (λ l. h x ∷ l) (next_set old i d)

  -- one more is altered
  pub one_altered : (old : List B) (now new : List A) (i : ℕ) (x y : A)
      → map f now ≡ map h (take i old) ++ drop i old → x ≡ slice_index_or now i x → f y ≡ h (f x)
      → new ≡ slice_set now i y → map f new ≡ map h (take (i + 1) old) ++ drop (i + 1) old
  one_altered old now new i x y before here altered set =
      let here_is : f x ≡ slice_index_or old i (f x)
      = ap f here ∙ sym (map_get now i x) ∙ ap (λ l. slice_index_or l i (f x)) before ∙ next_there old i (f x) in
      let next : suc i ≡ i + 1 = omega arith in
      subst (λ j. map f new ≡ map h (take j old) ++ drop j old) next
      (ap (map f) set ∙ map_set now i y ∙ ap (λ z. slice_set (map f now) i z) (altered ∙ ap h here_is)
      ∙ ap (λ l. slice_set l i (h (slice_index_or old i (f x)))) before ∙ next_set old i (f x))

-- ---- a run at its place

pub run_there : {A Z : Type 0} (runs : List (Rc (List A) Z)) (place : ℕ) (run : Rc (List A) Z) → place < length runs
    → run ≡ slice_index_or runs place run → run.value ≡ run_at place (values_of runs)
run_there [] place run within is = absurd (omega arith)
run_there (r ∷ runs) zero run within is = ap (λ s. s.value) is
run_there (r ∷ runs) (suc place) run within is = run_there runs place run (omega arith) is

pub run_none : {A Z : Type 0} (runs : List (Rc (List A) Z)) (place : ℕ) → length runs ≤ place
    → [] ≡ run_at place (values_of runs)
run_none [] place past = refl
run_none (r ∷ runs) zero past = absurd (omega arith)
run_none (r ∷ runs) (suc place) past = run_none runs place (omega arith)

-- a run that isn't altered yet is in order as it was
pub one_rises : {A K V : Type 0} (R : K → K → Ordering) (f : A → List (K × V)) (h : List (K × V) → List (K × V))
    (old : List (List (K × V))) (now : List A) (i : ℕ) (d : A) → map f now ≡ map h (take i old) ++ drop i old
    → AllRise R old → i < length now → Rise R (f (slice_index_or now i d))
one_rises {A} {K} {V} R f h old now i d before up within =
    subst (Rise R) (sym (sym (map_get f h now i d) ∙ ap (λ l. slice_index_or l i (f d)) before
    ∙ next_there f h old i (f d)))
    (rise_at old i (f d) up (subst (λ n. i < n) (sym (map_long now)
    ∙ ap length before ∙ joined_long old i) within))
  where
    map_long : (xs : List A) → length (map f xs) ≡ length xs
    map_long [] = refl
    map_long (x ∷ xs) = ap suc (map_long xs)

    joined_long : (xs : List (List (K × V))) (i : ℕ) → length (map h (take i xs) ++ drop i xs) ≡ length xs
    joined_long [] zero = refl
    joined_long [] (suc i) = refl
    joined_long (x ∷ xs) zero = refl
    joined_long (x ∷ xs) (suc i) = ap suc (joined_long xs i)

    rise_at : (xs : List (List (K × V))) (i : ℕ) (e : List (K × V)) → AllRise R xs → i < length xs
        → Rise R (slice_index_or xs i e)
    rise_at [] i e up within = absurd (omega (arith, within))
    rise_at (x ∷ xs) zero e up within = up.0
    rise_at (x ∷ xs) (suc i) e up within = rise_at xs i e up.1 (omega (arith, within))
