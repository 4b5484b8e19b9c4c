-- Values of a floor that nobody sees, since something lies over each of their keys.
use Rattle.std.proofs.Common.{◌≡◌, ◌++◌, Bool, true, false, cond, ℕ, zero, suc, List, [], ◌∷◌}
use Rattle.std.proofs.Common.{Option, Some, None, is_some, inl, inr, refl, sym, ap, ◌∙◌, subst, Ordering, drop}
use Rattle.std.specs.Ordering.{eq_by_cmp}
use Rattle.std.specs.Option.{option_or}
use Rattle.std.specs.Cmp.{IsTotalOrder, Equal-is}
use Rattle.std.specs.FinMap.{IsAntisymmetric, find, put}
use Rattle.std.specs.FinMap.Entries.{find-put}
use Rattle.ordered_lists.proofs.ListMembers.{In}
use Rattle.layered_maps.specs.Layers.{Rise, put_all}
use Rattle.layered_maps.specs.Maps.{over, AreKeyed, replaced_by, sinks, sunk, sunk_of}
use Rattle.layered_maps.proofs.LayerPairs.{find_put_all}
use Rattle.layered_maps.proofs.FoundPairs.{found_member, same_found}
use Rattle.layered_maps.proofs.OverPairs.{find_over, over_rises, replaced_all_rises, settled}

module _ {K V : Type 0} (key : V → K) (R : K → K → Ordering) (total : IsTotalOrder R) (exact : IsAntisymmetric R) where
  module _ (layers : List (K × Option V)) where
    -- something lies over the key of each value
    abbrev pub AreHidden : List V → Type 0
    AreHidden [] = Unit {0}
    AreHidden (v ∷ vs) = (is_some (find R (key v) layers) ≡ true) × AreHidden vs

    hidden_drop : (n : ℕ) (vs : List V) → AreHidden vs → AreHidden (drop n vs)
    hidden_drop zero vs h = h
    hidden_drop (suc n) [] h = tt
    hidden_drop (suc n) (v ∷ vs) h = hidden_drop n vs h.1

    hidden_more : (b : Bool) (o : Option V) (vs : List V)
        → ((v : V) → o ≡ Some v → is_some (find R (key v) layers) ≡ true) → AreHidden vs → AreHidden (sunk_of b o ++ vs)
    hidden_more b None vs h rest = rest
    hidden_more true (Some v) vs h rest = (h v refl, rest)
    hidden_more false (Some v) vs h rest = rest

    hidden_sunk : (others : List (K × Option V)) (pairs : List (K × V)) (run : List (K × Option V))
        → ((p : K × Option V) → In p run → (v : V) → p.1 ≡ Some v → is_some (find R (key v) layers) ≡ true)
        → AreHidden (sunk R others pairs run)
    hidden_sunk others pairs [] h = tt
    hidden_sunk others pairs (x ∷ run) h =
        hidden_more (sinks R others pairs x) x.1 (sunk R others pairs run) (λ v e. h x (inl refl) v e)
        (hidden_sunk others pairs run (λ p i. h p (inr i)))

    other_key : (k j : K) → find R k layers ≡ None → is_some (find R j layers) ≡ true → eq_by_cmp R k j ≡ false
    other_key k j none has =
        elim (eq_by_cmp R k j) as (λ b. eq_by_cmp R k j ≡ b → b ≡ false) [
          | false ↦ λ t. refl
          | true ↦ λ t.
              let is : find R j layers ≡ None = ap (λ q. find R q layers) (sym (exact k j ((Equal-is _).0 t))) ∙ none in
              cc
        ] refl

    -- at a key over which nothing lies
    others_found : (vs : List V) (pairs : List (K × V)) → AreHidden vs → (k : K) → find R k layers ≡ None
        → find R k (replaced_by key R vs pairs) ≡ find R k pairs
    others_found [] pairs h k none = refl
    others_found (v ∷ vs) pairs h k none =
        let M = replaced_by key R vs pairs in
        elim (is_some (find R (key v) M)) as (λ b. find R k (cond b (put R (key v) v M) M) ≡ find R k pairs) [
          | true ↦ find-put R total k (key v) v M
              ∙ ap (λ b. cond b (Some v) (find R k M)) (other_key k (key v) none h.0)
              ∙ others_found vs pairs h.1 k none
          | false ↦ others_found vs pairs h.1 k none
        ]

    seen : (vs : List V) (pairs : List (K × V)) → AreHidden vs → (k : K)
        → settled (find R k layers) (find R k (replaced_by key R vs pairs)) ≡ settled (find R k layers) (find R k pairs)
    seen vs pairs h k =
        elim (find R k layers) as (λ o. find R k layers ≡ o
        → settled o (find R k (replaced_by key R vs pairs)) ≡ settled o (find R k pairs)) [
          | None ↦ λ none. others_found vs pairs h k none
          | Some x ↦ λ some. refl
        ] refl

    -- the map is the same with them and without
    pub unseen : (vs : List V) (pairs : List (K × V)) → AreHidden vs → Rise R pairs
        → over R layers (replaced_by key R vs pairs) ≡ over R layers pairs
    unseen vs pairs h up =
        same_found R total exact (over R layers (replaced_by key R vs pairs)) (over R layers pairs)
        (over_rises R total layers (replaced_by key R vs pairs)
        (replaced_all_rises key R total exact vs pairs up))
        (over_rises R total layers pairs up)
        (λ k. find_over R total k layers (replaced_by key R vs pairs) ∙ seen vs pairs h k
        ∙ sym (find_over R total k layers pairs))

  -- what comes into a floor, all of it or the last ones, where the run that it is of lies over that
  pub sunk_unseen : (run layers : List (K × Option V)) (pairs : List (K × V)) (values : List V)
      → values ≡ sunk R layers pairs run → Rise R run → AreKeyed key R run → Rise R pairs → (n : ℕ)
      → over R (put_all R run layers) (replaced_by key R (drop n values) pairs) ≡ over R (put_all R run layers) pairs
  sunk_unseen run layers pairs values is up are floor n =
      let all = put_all R run layers in
      unseen all (drop n values) pairs
      (hidden_drop all n values (subst (AreHidden all) (sym is)
      (hidden_sunk all layers pairs run (λ p i v e.
      let there : find R p.0 run ≡ Some (Some v) = found_member R total run up p i ∙ ap Some e in
      ap (λ j. is_some (find R j all)) (are p.0 v there)
      ∙ ap is_some (find_put_all R total p.0 run layers ∙ ap (λ o. option_or o (find R p.0 layers)) there)))))
      floor
