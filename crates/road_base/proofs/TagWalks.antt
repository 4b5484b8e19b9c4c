-- What is found among ascending tags that are gone through from the first.
use Rattle.std.proofs.Common.{◌≡◌, ℕ, zero, suc, ◌<◌, ◌≤◌, true, false, IsTrue, List, [], ◌∷◌, length, get_or, take}
use Rattle.std.proofs.Common.{drop, Some, None, bytes_eq, refl, sym, ap, arith, nat_cmp}
use Rattle.std.specs.Ordering.{is_eq, ordering_then}
use Rattle.std.specs.declared.cmp.Ordering.{Ordering}
use Rattle.std.specs.declared.cmp.Ordering.TheVariants.{Less, Equal, Greater}
use Rattle.std.specs.Cmp.Lexicographic.{nat_list_cmp_total}
use Rattle.road_base.specs.Tags.{TagList, is_above, IsAscending, value_of}
use Rattle.ordered_lists.proofs.Comparisons.{turned}
use Rattle.road_base.proofs.TagSearch.{text_cmp, ascending_of_above, below_each, no_value}

-- ---- the first bytes

decided : (r s : Ordering) (o : Ordering) → ordering_then r Equal ≡ o → is_eq o ≡ false → ordering_then r s ≡ o
decided Less s o e differ = e
decided Equal s o e differ = cc
decided Greater s o e differ = e

-- where the first bytes differ, they decide
pub first_decide : (a b : List ℕ) (o : Ordering) → o ≡ text_cmp (take 1 a) (take 1 b) → is_eq o ≡ false
    → text_cmp a b ≡ o
first_decide [] [] o e differ = sym e
first_decide [] (y ∷ ys) o e differ = sym e
first_decide (x ∷ xs) [] o e differ = sym e
first_decide (x ∷ xs) (y ∷ ys) o e differ = decided (nat_cmp x y) (text_cmp xs ys) o (sym e) differ

-- ---- the tags from a place on

-- where the key there differs
pub passes : (k : List ℕ) (ts : TagList) (i : ℕ) (d : List ℕ × List ℕ) → i < length ts
    → bytes_eq (get_or ts i d).0 k ≡ false → value_of k (drop i ts) ≡ value_of k (drop (suc i) ts)
passes k [] i d within other = absurd (omega arith)
passes k (t ∷ ts) zero d within other = rw other refl
passes k (t ∷ ts) (suc i) d within other = passes k ts i d (omega arith) other

-- where it is the one asked for
pub meets : (k : List ℕ) (ts : TagList) (i : ℕ) (d : List ℕ × List ℕ) → i < length ts
    → bytes_eq (get_or ts i d).0 k ≡ true → value_of k (drop i ts) ≡ Some (get_or ts i d).1
meets k [] i d within same = absurd (omega arith)
meets k (t ∷ ts) zero d within same = rw same refl
meets k (t ∷ ts) (suc i) d within same = meets k ts i d (omega arith) same

-- where it is above that
pub stops : (k : List ℕ) (ts : TagList) → IsAscending ts → (i : ℕ) (d : List ℕ × List ℕ) → i < length ts
    → text_cmp k (get_or ts i d).0 ≡ Less → value_of k (drop i ts) ≡ None
stops k [] up i d within below = absurd (omega arith)
stops k (t ∷ ts) up zero d within below =
    let above : IsTrue (is_above k (t ∷ ts)) = rw below up in
    no_value k (t ∷ ts) (λ j e inside. ap is_eq
    (turned text_cmp nat_list_cmp_total k (get_or (t ∷ ts) j e).0 Less (below_each k (t ∷ ts) above j e inside)))
stops k (t ∷ ts) up (suc i) d within below = stops k ts (ascending_of_above t.0 ts up) i d (omega arith) below

-- where none is left
pub none_left : (k : List ℕ) (ts : TagList) (i : ℕ) → length ts ≤ i → value_of k (drop i ts) ≡ None
none_left k [] zero end = refl
none_left k [] (suc i) end = refl
none_left k (t ∷ ts) zero end = absurd (omega arith)
none_left k (t ∷ ts) (suc i) end = none_left k ts i (omega arith)
