-- Marks of the numbers of keys, where an entry is put.
use Rattle.std.proofs.Common.{◌≡◌, ℕ, ℤ, true, false, cond, IsTrue, List, [], ◌∷◌, ◌++◌, map, Some, None, is_some}
use Rattle.std.proofs.Common.{refl, sym, subst, Ordering}
use Rattle.std.specs.declared.cmp.Ordering.TheVariants.{Equal}
use Rattle.std.specs.Ordering.{eq_by_cmp}
use Rattle.std.specs.Cmp.{IsTotalOrder, Equal-is}
use Rattle.std.specs.FinMap.{find, put}
use Rattle.std.specs.FinMap.Entries.{find-put}
use Rattle.std.specs.Option.{option_or}
use Rattle.layered_maps.specs.Filters.{IsMarked, AreMarked}
use Rattle.layered_maps.specs.Layers.{put_all}
use Rattle.layered_maps.proofs.LayerPairs.{find_put_all}

module _ {K V : Type 0} (R : K → K → Ordering) (total : IsTotalOrder R) (number : K → ℤ)
    (tied : (a b : K) → R a b ≡ Equal → number a ≡ number b) where
  -- the own mark and those that stood are enough where an entry is put
  pub put_marked : (k : K) (v : V) (pairs : List (K × V)) (old new : List ℕ) → AreMarked R number pairs old
      → IsMarked new (number k) → ((other : ℤ) → IsMarked old other → IsMarked new other)
      → AreMarked R number (put R k v pairs) new
  put_marked k v pairs old new are own others q has =
      elim (eq_by_cmp R q k) as (λ b. eq_by_cmp R q k ≡ b
      → IsTrue (is_some (cond b (Some v) (find R q pairs))) → IsMarked new (number q)) [
        | true ↦ λ t some. subst (IsMarked new) (sym (tied q k ((Equal-is _).0 t))) own
        | false ↦ λ t some. others (number q) (are q some)
      ] refl (subst (λ o. IsTrue (is_some o)) (find-put R total q k v pairs) has)

  -- the keys of a level and of those behind it are marked
  pub laid_marked : (first pairs : List (K × V)) (old new : List ℕ) → AreMarked R number first new
      → AreMarked R number pairs old → ((other : ℤ) → IsMarked old other → IsMarked new other)
      → AreMarked R number (put_all R first pairs) new
  laid_marked first pairs old new own behind others q has =
      elim (find R q first) as (λ o. find R q first ≡ o
      → IsTrue (is_some (option_or o (find R q pairs))) → IsMarked new (number q)) [
        | Some v ↦ λ e some. own q (subst (λ o. IsTrue (is_some o)) (sym e) refl)
        | None ↦ λ e some. others (number q) (behind q some)
      ] refl (subst (λ o. IsTrue (is_some o)) (find_put_all R total q first pairs) has)

  -- one key more is marked
  pub more_marked : {E : Type 0} (f : E → K × V) (front : List E) (x : E) (old new : List ℕ)
      → AreMarked R number (map f front) old → IsMarked new (number (f x).0)
      → ((other : ℤ) → IsMarked old other → IsMarked new other)
      → AreMarked R number (map f (front ++ x ∷ [])) new
  more_marked f [] x old new are own others q has =
      elim (eq_by_cmp R q (f x).0) as (λ b. eq_by_cmp R q (f x).0 ≡ b
      → IsTrue (is_some (cond b (Some (f x).1) (find R q []))) → IsMarked new (number q)) [
        | true ↦ λ t some. subst (IsMarked new) (sym (tied q (f x).0 ((Equal-is _).0 t))) own
        | false ↦ λ t some. cc
      ] refl has
  more_marked f (y ∷ front) x old new are own others q has =
      elim (eq_by_cmp R q (f y).0) as (λ b. eq_by_cmp R q (f y).0 ≡ b
      → IsTrue (is_some (cond b (Some (f y).1) (find R q (map f (front ++ x ∷ [])))))
      → IsMarked new (number q)) [
        | true ↦ λ t some. others (number q)
            (are q (subst (λ b. IsTrue (is_some (cond b (Some (f y).1) (find R q (map f front))))) (sym t) refl))
        | false ↦ λ t some. more_marked f front x old new rest own others q some
      ] refl has
    where
      rest : AreMarked R number (map f front) old
      rest k found = are k (elim (eq_by_cmp R k (f y).0) as
          (λ b. IsTrue (is_some (cond b (Some (f y).1) (find R k (map f front))))) [
            | true ↦ refl
            | false ↦ found
          ])
