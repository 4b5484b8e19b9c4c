-- Values of which the last ones are taken off, one by one.
use Rattle.std.proofs.Common.{◌≡◌, ◌++◌, List, [], ◌∷◌, length, take, drop, refl, sym, ap, arith}
use Rattle.std.proofs.lemmas.List.{drop_all, take_all}

module _ {V : Type 0} where
  -- none yet
  pub none_off : (vs : List V) → (vs ≡ take (length vs) vs) × (drop (length vs) vs ≡ [])
  none_off vs = (sym (take_all (length vs) vs (omega arith)), drop_all (length vs) vs (omega arith))

  -- one more
  pub one_off : (front vs : List V) (v : V) → front ++ v ∷ [] ≡ take (length (front ++ v ∷ [])) vs
      → (front ≡ take (length front) vs) × (drop (length front) vs ≡ v ∷ drop (length (front ++ v ∷ [])) vs)
  one_off [] [] v e = cc
  one_off [] (x ∷ vs) v e = let same : x ≡ v = cc in (refl, ap (λ y. y ∷ vs) same)
  one_off (y ∷ front) [] v e = cc
  one_off (y ∷ front) (x ∷ vs) v e =
      let same : y ≡ x = cc in
      let below : front ++ v ∷ [] ≡ take (length (front ++ v ∷ [])) vs = cc in
      let rest = one_off front vs v below in
      ((λ i. same i ∷ rest.0 i), rest.1)
