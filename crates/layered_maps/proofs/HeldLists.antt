-- What keys have: lists that stand in the place of pairs.
use Rattle.std.proofs.Common.{◌≡◌, ◌↔◌, IsTrue, List, ◌++◌, map, [], ◌∷◌, Option, Some, None, refl, sym, ap, ◌∙◌, subst}
use Rattle.std.proofs.Common.{Contains, Ordering}
use Rattle.std.specs.Option.{option_or}
use Rattle.std.specs.FinMap.{find}
use Rattle.ordered_lists.specs.Orders.{Lists, rises}
use Rattle.layered_maps.specs.Lists.{Ascend, IsAmong}
use Rattle.layered_maps.proofs.FirstLists.{find_both}

pub same_list : {A : Type 0} (xs : List A) → map (λ x. x) xs ≡ xs
same_list [] = refl
same_list (x ∷ xs) = ap (λ l. x ∷ l) (same_list xs)

module _ {V : Type 0} (S : V → V → Ordering) (Else : V → Type 0) where
  pub listed_some : (o : Option (List V)) (values xs : List V) → o ≡ Some values → IsTrue (rises S values) → xs ≡ values
      → Lists (λ v. v) S (λ v. IsAmong o v (Else v)) xs
  listed_some o values xs e up same =
      subst (λ l. Lists (λ v. v) S (λ v. IsAmong o v (Else v)) l) (sym same)
      (subst (λ it. Lists (λ v. v) S (λ v. IsAmong it v (Else v)) values) (sym e) (record {
        ascending = subst (λ l. IsTrue (rises S l)) (sym (same_list values)) up;
        sound = λ v c. c;
        complete = λ v c. c;
      }))

  pub listed_else : (o : Option (List V)) (xs : List V) → o ≡ None → Lists (λ v. v) S Else xs
      → Lists (λ v. v) S (λ v. IsAmong o v (Else v)) xs
  listed_else o xs e lists = subst (λ it. Lists (λ v. v) S (λ v. IsAmong it v (Else v)) xs) (sym e) lists

pub of_base : {K V : Type 0} (R : K → K → Ordering) (lists : List (K × List V)) (pairs list base : List (K × V))
    → lists ≡ [] → base ≡ list → ((p : K × V) → Contains list p ↔ Contains pairs p) → (k : K) (v : V)
    → IsAmong (find R k lists) v (Contains base (k, v)) ↔ Contains pairs (k, v)
of_base {K} {V} R lists pairs list base e same is k v =
    subst (λ (ls : List (K × List V)). IsAmong (find R k ls) v (Contains base (k, v)) ↔ Contains pairs (k, v)) (sym e)
    (subst (λ (l : List (K × V)). Contains l (k, v) ↔ Contains pairs (k, v)) (sym same) (is (k, v)))

module _ {K V : Type 0} (R : K → K → Ordering) where
  -- what both lists of lists have ascends
  pub ascend_both : (S : V → V → Ordering) (a b : List (K × List V)) → Ascend R S a → Ascend R S b → Ascend R S (a ++ b)
  ascend_both S a b up low k values e =
      elim (find R k a) as (λ o. find R k a ≡ o → option_or o (find R k b) ≡ Some values → IsTrue (rises S values)) [
        | None ↦ λ is h. low k values h
        | Some l ↦ λ is h. up k values (is ∙ h)
      ] refl (sym (find_both R k a b) ∙ e)
