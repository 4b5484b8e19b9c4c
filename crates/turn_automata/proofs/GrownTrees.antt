-- A tree stays one when an edge joins it, and its lists grow by the edge's.
use Rattle.std.proofs.Common.{◌≡◌, ℕ, suc, ◌+◌, ◌≤◌, inl, inr, Bool, true, false, if◌then◌else◌, List, [], ◌∷◌, ◌++◌}
use Rattle.std.proofs.Common.{length, get_or, slice_get, Some, refl, sym, ap, subst, ◌∙◌, arith}
use Rattle.std.specs.List.{list_any}
use Rattle.std.proofs.lemmas.Option.{get_or_from_slice_get}
use Rattle.indexmap.specs.IndexSet.{insert_key}
use Rattle.road_base.specs.declared.ids.Step.{Step}
use Rattle.turn_automata.specs.declared.edges.Edge.{Edge}
use Rattle.turn_automata.specs.contracts.edges.EdgePartialEq.TheImpl.{ghosts as edge_equality}
use Rattle.turn_automata.specs.Trees.{Stands, lists_of, IsGrownBy, IsTree}
use Rattle.ordered_lists.proofs.ListPlaces.{stands_left, stands_cases}
use Rattle.turn_automata.proofs.TreeLists.{edge_of, grown_push, leads}
use Rattle.turn_automata.proofs.SameEdges.{edge_same, not_among}

new_list : (es : List Edge) (n : ℕ) (x : Step) (p : List Step) → Stands (lists_of es) n p
    → lists_of (es ++ edge_of n x ∷ []) ≡ lists_of es ++ (p ++ x ∷ []) ∷ []
new_list es n x p st =
    let at : get_or (lists_of es) n [] ≡ p = get_or_from_slice_get (lists_of es) n p [] st in
    grown_push ([] ∷ []) es (edge_of n x) ∙ ap (λ q. lists_of es ++ (q ++ x ∷ []) ∷ []) at

module _ (es : List Edge) (e : Edge) (tree : IsTree es) (low : e.from ≤ length es)
    (fresh : (k : ℕ) → slice_get es k ≡ Some e → ⊥) where
  from_more : (k : ℕ) (d : Edge) → slice_get (es ++ e ∷ []) k ≡ Some d → d.from ≤ k
  from_more k d h = elim (stands_cases es e k d h) [
    | inl o ↦ tree.from k d o
    | inr o ↦
        let s : d.from ≡ e.from = ap (λ (c : Edge). c.from) o.1 in
        let k' : k ≡ length es = o.0 in
        omega arith
  ]

  once_more : (j k : ℕ) (d : Edge) → slice_get (es ++ e ∷ []) j ≡ Some d → slice_get (es ++ e ∷ []) k ≡ Some d → j ≡ k
  once_more j k d a b = elim (stands_cases es e j d a) [
    | inl o ↦ elim (stands_cases es e k d b) [
      | inl q ↦ tree.once j k d o q
      | inr q ↦ absurd (fresh j (o ∙ ap Some q.1))
    ]
    | inr o ↦ elim (stands_cases es e k d b) [
      | inl q ↦ absurd (fresh k (q ∙ ap Some o.1))
      | inr q ↦ o.0 ∙ sym q.0
    ]
  ]

  joined : IsTree (es ++ e ∷ [])
  joined = record { from = from_more; once = once_more }

-- the edges after one is inserted
module _ (es fs : List Edge) (n : ℕ) (x : Step) (tree : IsTree es) (low : n ≤ length es)
    (inserted : fs ≡ insert_key edge_equality.eq es (edge_of n x)) where
  -- an edge that is there changes nothing, and a new one goes last
  inserts : (IsTree fs) × ((p : List Step) → Stands (lists_of es) n p
      → IsGrownBy (lists_of es) (p ++ x ∷ []) (lists_of fs))
  inserts = by (list_any (edge_equality.eq (edge_of n x)) es) refl
    where
      by : (b : Bool) → list_any (edge_equality.eq (edge_of n x)) es ≡ b
          → (IsTree fs) × ((p : List Step) → Stands (lists_of es) n p
          → IsGrownBy (lists_of es) (p ++ x ∷ []) (lists_of fs))
      by true h =
          let same : fs ≡ es = inserted ∙ ap (λ b. if b then es else es ++ edge_of n x ∷ []) h in
          (subst IsTree (sym same) tree, λ p st. inl (ap lists_of same))
      by false h =
          let more : fs ≡ es ++ edge_of n x ∷ [] = inserted ∙ ap (λ b. if b then es else es ++ edge_of n x ∷ []) h in (
            subst IsTree (sym more) (joined es (edge_of n x) tree low (not_among es (edge_of n x) h)),
            λ p st. inr (ap lists_of more ∙ new_list es n x p st),
          )

  pub tree_more : IsTree fs
  tree_more = inserts.0

  pub grows : (p : List Step) → Stands (lists_of es) n p → IsGrownBy (lists_of es) (p ++ x ∷ []) (lists_of fs)
  grows = inserts.1

  -- the edge's index tells the number of the list that it leads to
  pub leads_there : (k : ℕ) (e : Edge) → slice_get fs k ≡ Some e → edge_equality.eq (edge_of n x) e ≡ true
      → (p : List Step) → Stands (lists_of es) n p → Stands (lists_of fs) (k + 1) (p ++ x ∷ [])
  leads_there k e at equal p st =
      let stays : Stands (lists_of fs) n p = elim (grows p st) [
        | inl same ↦ subst (λ ps. Stands ps n p) (sym same) st
        | inr more ↦ subst (λ ps. Stands ps n p) (sym more) (stands_left (lists_of es) ((p ++ x ∷ []) ∷ []) n p st)
      ] in
      let there : slice_get fs k ≡ Some (edge_of n x) = at ∙ ap Some (sym (edge_same (edge_of n x) e equal)) in
      let z : suc k ≡ k + 1 = omega arith in
      subst (λ m. Stands (lists_of fs) m (p ++ x ∷ [])) z (leads fs tree_more k (edge_of n x) p there stays)
