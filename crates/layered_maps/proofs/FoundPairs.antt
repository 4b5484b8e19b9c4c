-- Pairs in order: that they are told by what is found in them, and members of them.
use Rattle.std.proofs.Common.{◌≡◌, Bool, true, false, cond, IsTrue, List, [], ◌∷◌, map, filter, Some, None, inl, inr}
use Rattle.std.proofs.Common.{refl, sym, ap, ◌∙◌, subst, Ordering, T}
use Rattle.std.specs.declared.cmp.Ordering.TheVariants.{Less, Equal, Greater}
use Rattle.std.specs.Ordering.{is_lt, is_eq, eq_by_cmp}
use Rattle.std.specs.Cmp.{IsTotalOrder, Equal-is}
use Rattle.std.specs.FinMap.{IsAntisymmetric, find}
use Rattle.std.specs.FinMap.Entries.{below_all, same_entries}
use Rattle.std.proofs.lemmas.Bool.{and_parts, and_from}
use Rattle.std.proofs.lemmas.Cmp.{tied_itself}
use Rattle.ordered_lists.specs.Orders.{rises, rises_from}
use Rattle.ordered_lists.proofs.ListMembers.{In}
use Rattle.ordered_lists.proofs.Comparisons.{less, turned}
use Rattle.layered_maps.specs.Layers.{Rise}
use Rattle.layered_maps.specs.Maps.{keyed}
use Rattle.layered_maps.proofs.SplitPairs.{above_first, find_none}

holds : (b : Bool) → IsTrue b → T b
holds b h = subst T (sym h) tt

module _ {K V : Type 0} (R : K → K → Ordering) where
  -- a pair that is found is a member
  pub member_found : (k : K) (l : List (K × V)) (v : V) → find R k l ≡ Some v
      → (q : K) × In (q, v) l × (R k q ≡ Equal)
  member_found k [] v e = cc
  member_found k (x ∷ l) v e =
      elim (eq_by_cmp R k x.0) as (λ b. eq_by_cmp R k x.0 ≡ b → cond b (Some x.1) (find R k l) ≡ Some v
      → (q : K) × In (q, v) (x ∷ l) × (R k q ≡ Equal)) [
        | true ↦ λ t is. let same : x.1 ≡ v = cc in (x.0, inl (ap (λ w. (x.0, w)) (sym same)), (Equal-is _).0 t)
        | false ↦ λ t is. let r = member_found k l v is in (r.0, inr r.1, r.2)
      ] refl e

  module _ (total : IsTotalOrder R) where
    -- what is a member is found at its key
    pub found_member : (l : List (K × V)) → Rise R l → (p : K × V) → In p l → find R p.0 l ≡ Some p.1
    found_member [] up p i = absurd i
    found_member (x ∷ l) up p (inl e) =
        let t : R p.0 x.0 ≡ Equal = subst (λ (y : K × V). R p.0 y.0 ≡ Equal) e (tied_itself total p.0) in
        ap (λ r. cond (is_eq r) (Some x.1) (find R p.0 l)) t ∙ ap (λ (y : K × V). Some y.1) (sym e)
    found_member (x ∷ l) up p (inr i) =
        let g : R p.0 x.0 ≡ Greater = turned R total x.0 p.0 Less (above_first R x l up p i) in
        ap (λ r. cond (is_eq r) (Some x.1) (find R p.0 l)) g
        ∙ found_member l (and_parts _ _ up).1 p i

    -- a key that ties with the first of pairs in order is none of the others
    pub first_alone : (x : K × V) (l m : List (K × V)) → Rise R (x ∷ l) → ((p : K × V) → In p m → In p l)
        → (k : K) → R k x.0 ≡ Equal → find R k m ≡ None
    first_alone x l m up among k t =
        find_none R k m (λ y i. ap is_eq (total.congr k x.0 y.0 t ∙ above_first R x l up y (among y i)))

    -- pairs in order are told by what is found in them
    pub same_found : IsAntisymmetric R → (a b : List (K × V)) → Rise R a → Rise R b
        → ((k : K) → find R k a ≡ find R k b) → a ≡ b
    same_found exact a b g h is = same_entries R total exact a b (holds _ g) (holds _ h) is

    below_some : (k : K) (p : K × V → Bool) (l : List (K × V)) → IsTrue (below_all R k l)
        → IsTrue (below_all R k (filter p l))
    below_some k p [] h = refl
    below_some k p (x ∷ l) h =
        let rest = below_some k p l (and_parts _ _ h).1 in
        elim (p x) as (λ b. IsTrue (below_all R k (cond b (x ∷ filter p l) (filter p l)))) [
          | true ↦ and_from _ _ (and_parts _ _ h).0 rest
          | false ↦ rest
        ]

    -- some of pairs in order are in order
    pub some_rise : (p : K × V → Bool) (l : List (K × V)) → Rise R l → Rise R (filter p l)
    some_rise p [] h = refl
    some_rise p (x ∷ l) h =
        let rest = some_rise p l (and_parts _ _ h).1 in
        elim (p x) as (λ b. Rise R (cond b (x ∷ filter p l) (filter p l))) [
          | true ↦ and_from _ _ (below_some x.0 p l (and_parts _ _ h).0) rest
          | false ↦ rest
        ]

-- ---- values with their keys

module _ {K V : Type 0} (key : V → K) (R : K → K → Ordering) (total : IsTotalOrder R) where
  below_each : (k : K) (vs : List V) → IsTrue (rises_from R k (map key vs))
      → IsTrue (below_all R k (map (keyed key) vs))
  below_each k [] h = refl
  below_each k (v ∷ vs) h =
      let p = and_parts _ _ h in and_from _ _ p.0 (further k (key v) vs (less _ p.0) (below_each (key v) vs p.1))
    where
      further : (j k : K) (vs : List V) → R j k ≡ Less → IsTrue (below_all R k (map (keyed key) vs))
          → IsTrue (below_all R j (map (keyed key) vs))
      further j k [] e h = refl
      further j k (v ∷ vs) e h =
          let p = and_parts _ _ h in
          and_from _ _ (ap is_lt (total.trans j k (key v) e (less _ p.0))) (further j k vs e p.1)

  -- values whose keys rise, as pairs
  pub pairs_rise : (vs : List V) → IsTrue (rises R (map key vs)) → Rise R (map (keyed key) vs)
  pairs_rise [] h = refl
  pairs_rise (v ∷ vs) h = and_from _ _ (below_each (key v) vs h) (pairs_rise vs (rest (key v) vs h))
    where
      rest : (k : K) (vs : List V) → IsTrue (rises_from R k (map key vs)) → IsTrue (rises R (map key vs))
      rest k [] h = refl
      rest k (v ∷ vs) h = (and_parts _ _ h).1

  -- and the other way round
  pub keys_rise : (vs : List V) → Rise R (map (keyed key) vs) → IsTrue (rises R (map key vs))
  keys_rise [] h = refl
  keys_rise (v ∷ []) h = refl
  keys_rise (v ∷ w ∷ vs) h =
      let p = and_parts _ _ h in and_from _ _ (and_parts _ _ p.0).0 (keys_rise (w ∷ vs) p.1)

  -- what is found has the key
  pub key_found : IsAntisymmetric R → (k : K) (vs : List V) (v : V) → find R k (map (keyed key) vs) ≡ Some v
      → key v ≡ k
  key_found exact k [] v e = cc
  key_found exact k (x ∷ vs) v e =
      elim (eq_by_cmp R k (key x)) as (λ b. eq_by_cmp R k (key x) ≡ b
      → cond b (Some x) (find R k (map (keyed key) vs)) ≡ Some v → key v ≡ k) [
        | true ↦ λ t is. let same : x ≡ v = cc in
            ap key (sym same) ∙ sym (exact k (key x) ((Equal-is _).0 t))
        | false ↦ λ t is. key_found exact k vs v is
      ] refl e

  -- pairs whose values stand at their keys are told by their values
  pub told_by_values : (pairs : List (K × V)) → ((p : K × V) → In p pairs → key p.1 ≡ p.0)
      → map (keyed key) (map (λ p. p.1) pairs) ≡ pairs
  told_by_values [] are = refl
  told_by_values (p ∷ pairs) are = λ i.
      (are p (inl refl) i, p.1) ∷ told_by_values pairs (λ q m. are q (inr m)) i
