-- What stands in the first items of a list.
use Rattle.std.proofs.Common.{◌≡◌, ℕ, ◌+◌, ◌<◌, ◌≤◌, ◌⊎◌, List, [], ◌∷◌, length, take, get_or, Contains, refl, sym}
use Rattle.std.proofs.Common.{subst}
use Rattle.std.proofs.Common.{arith}
use Rattle.std.proofs.lemmas.List.{take_more, take_all}
use Rattle.std.proofs.lemmas.List.Elements.{Contains-push_cases, Contains-append_left, Contains-append_right}

module _ {X : Type 0} (xs : List X) where
  pub among_more : (i : ℕ) (d : X) → i < length xs → (x : X) → Contains (take (i + 1) xs) x
      → Contains (take i xs) x ⊎ (get_or xs i d ≡ x)
  among_more i d l x c = Contains-push_cases (take i xs) (get_or xs i d) x
      (subst (λ v. Contains v x) (take_more xs i d l) c)

  pub among_before : (i : ℕ) (d : X) → i < length xs → (x : X) → Contains (take i xs) x → Contains (take (i + 1) xs) x
  among_before i d l x c = subst (λ v. Contains v x) (sym (take_more xs i d l))
      (Contains-append_left (take i xs) (get_or xs i d ∷ []) x c)

  pub among_last : (i : ℕ) (d : X) → i < length xs → Contains (take (i + 1) xs) (get_or xs i d)
  among_last i d l = subst (λ v. Contains v (get_or xs i d)) (sym (take_more xs i d l))
      (Contains-append_right (take i xs) (get_or xs i d ∷ []) (get_or xs i d) (0, omega arith, refl))

  pub among_all : (i : ℕ) → length xs ≤ i → (x : X) → Contains xs x → Contains (take i xs) x
  among_all i l x c = subst (λ v. Contains v x) (sym (take_all i xs l)) c

  pub among_item : (i : ℕ) (x : X) → i < length xs → x ≡ get_or xs i x → Contains xs x
  among_item i x l e = (i, l, sym e)
