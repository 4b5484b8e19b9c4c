-- Goals by the names of their pieces, with one put among them.
use Rattle.std.proofs.Common.{◌≡◌, inl, inr, Some, cond, sym, ◌∙◌, ap, subst, Ordering}
use Rattle.std.proofs.Common.{ℕ, ◌+◌, ◌<◌, List, length, map, take, get_or, IsTrue, Contains}
use Rattle.std.specs.Ordering.{is_eq, is_lt}
use Rattle.std.proofs.lemmas.List.{take_more}
use Rattle.ordered_lists.proofs.ListMembers.{in_from_contains}
use Rattle.ordered_lists.proofs.Comparisons.{not_itself, eq_cases}
use Rattle.road_model.specs.declared.lists.Piece.{Piece}
use Rattle.ordered_lists.specs.Orders.{rises}
use Rattle.ordered_lists.proofs.AscendingLists.{Climbs, climbs, climbs_take, below_end}
use Rattle.std.specs.Cmp.{IsTotalOrder}
use Rattle.std.specs.FinMap.{IsAntisymmetric}
use Rattle.std.specs.BTreeMap.{BTreeMap, Updates}
use Rattle.std.proofs.lemmas.Cmp.{tied_itself}
use Rattle.road_model.specs.declared.lists.PieceName.{PieceName}
use Rattle.road_model.specs.Orders.{name_cmp}
use Rattle.context_search.specs.declared.ends.Goal.{Goal}
use Rattle.context_search.specs.Visits.{goal_in}

module _ (cmp : PieceName → PieceName → Ordering) (by : (a b : PieceName) → cmp a b ≡ name_cmp a b)
    (old new : BTreeMap PieceName Goal) (k : PieceName) (g : Goal) (put : Updates cmp old new k (Some g)) where
  at : (q : PieceName) → goal_in new q ≡ cond (is_eq (name_cmp k q)) (Some g) (goal_in old q)
  at q =
      let same : cmp ≡ name_cmp = λ i a b. by a b i in
      let h : Updates name_cmp old new k (Some g) = subst (λ c. Updates c old new k (Some g)) same put in
      h.0 q

  pub put_same : IsTotalOrder name_cmp → goal_in new k ≡ Some g
  put_same names = at k ∙ ap (λ r. cond (is_eq r) (Some g) (goal_in old k)) (tied_itself names k)

  pub put_other : IsAntisymmetric name_cmp → (n : PieceName) → (n ≡ k → ⊥) → goal_in new n ≡ goal_in old n
  put_other ties n not = elim (eq_cases (name_cmp k n)) [
    | inl e ↦ absurd (not (sym (ties k n e)))
    | inr f ↦ at n ∙ ap (λ b. cond b (Some g) (goal_in old n)) f
  ]

pub same_goal : (g h : Goal) → Some g ≡ Some h → g ≡ h
same_goal g h e = cc

-- a piece of an ascending list is named otherwise than those before it
pub named_apart : IsTotalOrder name_cmp → (xs : List Piece) (i : ℕ) (d : Piece)
    → IsTrue (rises name_cmp (map (λ e. e.name) xs)) → i < length xs → (e : Piece) → Contains (take i xs) e
    → e.name ≡ (get_or xs i d).name → ⊥
named_apart names xs i d up h e has same =
    let name : Piece → PieceName = λ z. z.name in
    let c = climbs_take name name_cmp names (i + 1) xs (climbs name name_cmp names xs up) in
    let k = subst (λ l. Climbs name name_cmp names l) (take_more xs i d h) c in
    let b = below_end name name_cmp names (take i xs) (get_or xs i d) k e (in_from_contains (take i xs) e has) in
    not_itself name_cmp names (get_or xs i d).name
    (subst (λ n. IsTrue (is_lt (name_cmp n (get_or xs i d).name))) same b)
