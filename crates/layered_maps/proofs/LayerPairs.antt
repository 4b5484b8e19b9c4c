-- Pairs that are put into others, and the entries of runs.
use Rattle.std.proofs.Common.{◌≡◌, Bool, true, false, cond, List, [], ◌∷◌, ◌++◌, Option, Some, None}
use Rattle.std.proofs.Common.{refl, sym, ap, ◌∙◌, Ordering, length, suc, append_assoc}
use Rattle.std.specs.declared.cmp.Ordering.TheVariants.{Less, Equal, Greater}
use Rattle.std.specs.declared.rc.Rc.{Rc}
use Rattle.std.specs.Ordering.{eq_by_cmp}
use Rattle.std.specs.Option.{option_or}
use Rattle.std.specs.Cmp.{IsTotalOrder}
use Rattle.std.specs.FinMap.{find, put}
use Rattle.std.specs.FinMap.Entries.{by_order, find-put}
use Rattle.ordered_lists.proofs.Comparisons.{turned}
use Rattle.layered_maps.specs.Layers.{Rise, put_all, laid, values_of}
use Rattle.layered_maps.proofs.SplitPairs.{put_rises}

-- what is found first, chosen by a test
pub or_cond : {V : Type 0} (b : Bool) (v : V) (o p r : Option V) → r ≡ option_or o p
    → cond b (Some v) r ≡ option_or (cond b (Some v) o) p
or_cond true v o p r e = refl
or_cond false v o p r e = e

module _ {K V : Type 0} (R : K → K → Ordering) (total : IsTotalOrder R) where
  pub find_put_all : (k : K) (more pairs : List (K × V))
      → find R k (put_all R more pairs) ≡ option_or (find R k more) (find R k pairs)
  find_put_all k [] pairs = refl
  find_put_all k (p ∷ more) pairs =
      find-put R total k p.0 p.1 (put_all R more pairs)
      ∙ or_cond (eq_by_cmp R k p.0) p.1 (find R k more) (find R k pairs) _ (find_put_all k more pairs)

  -- what is put into pairs in order leaves them in order
  pub put_all_rises : (more pairs : List (K × V)) → Rise R pairs → Rise R (put_all R more pairs)
  put_all_rises [] pairs up = up
  put_all_rises (p ∷ more) pairs up = put_rises R total p.0 p.1 (put_all R more pairs) (put_all_rises more pairs up)

  pub laid_rises : (runs : List (List (K × V))) → Rise R (laid R runs)
  laid_rises [] = refl
  laid_rises (run ∷ runs) = put_all_rises run (laid R runs) (laid_rises runs)

  put_less : (k : K) (v : V) (x : K × V) (l : List (K × V)) → R k x.0 ≡ Less → put R k v (x ∷ l) ≡ (k, v) ∷ x ∷ l
  put_less k v x l e = ap (λ r. by_order r ((k, v) ∷ x ∷ l) ((x.0, v) ∷ l) (x ∷ put R k v l)) e

  put_equal : (k : K) (v : V) (x : K × V) (l : List (K × V)) → R k x.0 ≡ Equal → put R k v (x ∷ l) ≡ (x.0, v) ∷ l
  put_equal k v x l e = ap (λ r. by_order r ((k, v) ∷ x ∷ l) ((x.0, v) ∷ l) (x ∷ put R k v l)) e

  put_greater : (k : K) (v : V) (x : K × V) (l : List (K × V)) → R k x.0 ≡ Greater
      → put R k v (x ∷ l) ≡ x ∷ put R k v l
  put_greater k v x l e = ap (λ r. by_order r ((k, v) ∷ x ∷ l) ((x.0, v) ∷ l) (x ∷ put R k v l)) e

  -- what is put where a tied key was put stands in its place
  put_tied : (k q : K) (v w : V) (l : List (K × V)) → R k q ≡ Equal → put R k v (put R q w l) ≡ put R q v l
  put_tied k q v w [] e = put_equal k v (q, w) [] e
  put_tied k q v w (x ∷ l) e =
      elim (R q x.0) as (λ r. R q x.0 ≡ r → put R k v (put R q w (x ∷ l)) ≡ put R q v (x ∷ l)) [
        | Less ↦ λ h. ap (put R k v) (put_less q w x l h) ∙ put_equal k v (q, w) (x ∷ l) e ∙ sym (put_less q v x l h)
        | Equal ↦ λ h. ap (put R k v) (put_equal q w x l h) ∙ put_equal k v (x.0, w) l (total.congr k q x.0 e ∙ h)
            ∙ sym (put_equal q v x l h)
        | Greater ↦ λ h. ap (put R k v) (put_greater q w x l h)
            ∙ put_greater k v x (put R q w l) (total.congr k q x.0 e ∙ h)
            ∙ ap (λ m. x ∷ m) (put_tied k q v w l e) ∙ sym (put_greater q v x l h)
      ] refl

  -- a key below another one and below the first of a list is put before both
  put_below : (k q : K) (v w : V) (x : K × V) (l : List (K × V)) → R q k ≡ Less → R q x.0 ≡ Less
      → put R q w (put R k v (x ∷ l)) ≡ (q, w) ∷ put R k v (x ∷ l)
  put_below k q v w x l low e =
      elim (R k x.0) as (λ r. R k x.0 ≡ r → put R q w (put R k v (x ∷ l)) ≡ (q, w) ∷ put R k v (x ∷ l)) [
        | Less ↦ λ h. ap (put R q w) (put_less k v x l h) ∙ put_less q w (k, v) (x ∷ l) low
            ∙ ap (λ m. (q, w) ∷ m) (sym (put_less k v x l h))
        | Equal ↦ λ h. ap (put R q w) (put_equal k v x l h) ∙ put_less q w (x.0, v) l e
            ∙ ap (λ m. (q, w) ∷ m) (sym (put_equal k v x l h))
        | Greater ↦ λ h. ap (put R q w) (put_greater k v x l h) ∙ put_less q w x (put R k v l) e
            ∙ ap (λ m. (q, w) ∷ m) (sym (put_greater k v x l h))
      ] refl

  -- keys that don't tie may be put in either order
  put_turned : (k q : K) (v w : V) (l : List (K × V)) → R q k ≡ Less
      → put R q w (put R k v l) ≡ put R k v (put R q w l)
  put_turned k q v w [] low =
      put_less q w (k, v) [] low ∙ sym (put_greater k v (q, w) [] (turned R total q k Less low))
  put_turned k q v w (x ∷ l) low =
      elim (R q x.0) as (λ r. R q x.0 ≡ r
      → put R q w (put R k v (x ∷ l)) ≡ put R k v (put R q w (x ∷ l))) [
        | Less ↦ λ h. put_below k q v w x l low h
            ∙ sym (ap (put R k v) (put_less q w x l h)
            ∙ put_greater k v (q, w) (x ∷ l) (turned R total q k Less low))
        | Equal ↦ λ h.
            let above : R k x.0 ≡ Greater = turned R total x.0 k Less (sym (total.congr q x.0 k h) ∙ low) in
            ap (put R q w) (put_greater k v x l above) ∙ put_equal q w x (put R k v l) h
            ∙ sym (ap (put R k v) (put_equal q w x l h) ∙ put_greater k v (x.0, w) l above)
        | Greater ↦ λ h.
            let above : R k x.0 ≡ Greater
            = turned R total x.0 k Less (total.trans x.0 q k (turned R total q x.0 Greater h) low) in
            ap (put R q w) (put_greater k v x l above) ∙ put_greater q w x (put R k v l) h
            ∙ ap (λ m. x ∷ m) (put_turned k q v w l low)
            ∙ sym (ap (put R k v) (put_greater q w x l h) ∙ put_greater k v x (put R q w l) above)
      ] refl

  -- what is put into the first run is put before all
  pub put_first : (k : K) (v : V) (first pairs : List (K × V))
      → put_all R (put R k v first) pairs ≡ put R k v (put_all R first pairs)
  put_first k v [] pairs = refl
  put_first k v (x ∷ first) pairs =
      let all = put_all R first pairs in
      elim (R k x.0) as (λ r. R k x.0 ≡ r
      → put_all R (put R k v (x ∷ first)) pairs ≡ put R k v (put_all R (x ∷ first) pairs)) [
        | Less ↦ λ h. ap (λ m. put_all R m pairs) (put_less k v x first h)
        | Equal ↦ λ h. ap (λ m. put_all R m pairs) (put_equal k v x first h) ∙ sym (put_tied k x.0 v x.1 all h)
        | Greater ↦ λ h. ap (λ m. put_all R m pairs) (put_greater k v x first h)
            ∙ ap (put R x.0 x.1) (put_first k v first pairs)
            ∙ put_turned k x.0 v x.1 all (turned R total k x.0 Greater h)
      ] refl

  -- two runs may stand in one
  pub put_merged : (first below pairs : List (K × V))
      → put_all R (put_all R first below) pairs ≡ put_all R first (put_all R below pairs)
  put_merged [] below pairs = refl
  put_merged (p ∷ first) below pairs =
      put_first p.0 p.1 (put_all R first below) pairs ∙ ap (put R p.0 p.1) (put_merged first below pairs)

  -- where the first run has it
  pub laid_first : (k : K) (run : List (K × V)) (runs : List (List (K × V))) (v : V) → find R k run ≡ Some v
      → find R k (laid R (run ∷ runs)) ≡ Some v
  laid_first k run runs v e =
      find_put_all k run (laid R runs) ∙ ap (λ o. option_or o (find R k (laid R runs))) e

  -- where it hasn't
  pub laid_behind : (k : K) (run : List (K × V)) (runs : List (List (K × V))) → find R k run ≡ None
      → find R k (laid R (run ∷ runs)) ≡ find R k (laid R runs)
  laid_behind k run runs e =
      find_put_all k run (laid R runs) ∙ ap (λ o. option_or o (find R k (laid R runs))) e

value_joined : {V Z : Type 0} (xs ys : List (Rc V Z)) → values_of (xs ++ ys) ≡ values_of xs ++ values_of ys
value_joined [] ys = refl
value_joined (x ∷ xs) ys = ap (λ l. x.value ∷ l) (value_joined xs ys)

-- one value more is shared
pub value_more : {V Z : Type 0} (start : List V) (front : List (Rc V Z)) (here copy : Rc V Z)
    (old new all : List (Rc V Z)) → values_of old ≡ start ++ values_of front → new ≡ old ++ copy ∷ []
    → copy.value ≡ here.value → all ≡ front ++ here ∷ [] → values_of new ≡ start ++ values_of all
value_more start front here copy old new all before more same split =
    ap values_of more ∙ value_joined old (copy ∷ []) ∙ ap (λ v. values_of old ++ v ∷ []) same
    ∙ ap (λ l. l ++ here.value ∷ []) before ∙ append_assoc start (values_of front) (here.value ∷ [])
    ∙ ap (λ l. start ++ l) (sym (value_joined front (here ∷ [])))
    ∙ ap (λ l. start ++ values_of l) (sym split)

pub values_long : {V Z : Type 0} (xs : List (Rc V Z)) → length (values_of xs) ≡ length xs
values_long [] = refl
values_long (x ∷ xs) = ap suc (values_long xs)

-- as many are shared as there are values
pub as_many : {V Z : Type 0} (xs ys : List (Rc V Z)) → values_of xs ≡ values_of ys → length xs ≡ length ys
as_many xs ys e = sym (values_long xs) ∙ ap length e ∙ values_long ys

-- and one more with one value more
pub one_more : {V Z : Type 0} (xs ys : List (Rc V Z)) (v : V) → values_of xs ≡ v ∷ values_of ys
    → length xs ≡ suc (length ys)
one_more xs ys v e = sym (values_long xs) ∙ ap length e ∙ ap suc (values_long ys)
