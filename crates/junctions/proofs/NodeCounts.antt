-- How often a node stands in a list, and the marks that remember it.
use Rattle.std.proofs.Common.{◌≡◌, ℕ, zero, suc, ◌+◌, ◌<◌, ◌≤◌, length, take, drop, get_or, drop-cons, Bool, true}
use Rattle.std.proofs.Common.{false, cond, List, [], ◌∷◌, ◌++◌, slice_get, Some, is_some, refl, sym, ap, ◌∙◌, arith}
use Rattle.std.proofs.Common.{add-one, add-zero, zero-add}
use Rattle.std.proofs.Math.ListN.{drop_of_length-le}
use Rattle.std.specs.BTreeMap.{BTreeMap, get}
use Rattle.std.specs.Cmp.{int_eq_equiv}
use Rattle.std.proofs.lemmas.Bool.{false≢true}
use Rattle.std.proofs.lemmas.List.{map_more}
use Rattle.road_base.specs.declared.ids.NodeId.{NodeId}
use Rattle.road_model.specs.Lines.{same_node}
use Rattle.road_model.specs.Orders.{node_cmp}
use Rattle.way_lines.specs.declared.road_line.LineNode.{LineNode}
use Rattle.junctions.specs.Repeats.{times, mark, nodes_of, AreMarks}
use Rattle.road_model.proofs.SameNodes.{node_from_same, same_from_node}

pub same_node_flips : (a b : NodeId) → same_node a b ≡ same_node b a
same_node_flips a b = int_eq_equiv.symm a.0 b.0

-- ---- marks

-- a node that is met again stands there more than once
mark_again : (n : ℕ) → Some (is_some (mark n)) ≡ mark (n + 1)
mark_again zero = refl
mark_again (suc zero) = refl
mark_again (suc (suc n)) = rw add-one

pub times-append : (n : NodeId) (xs ys : List NodeId) → times n (xs ++ ys) ≡ times n xs + times n ys
times-append n [] ys = sym (zero-add (times n ys))
times-append n (x ∷ xs) ys = omega (arith, times-append n xs ys)

times_one_more : (n : NodeId) (xs : List NodeId) (x : NodeId)
    → times n (xs ++ x ∷ []) ≡ times n xs + cond (same_node n x) 1 0
times_one_more n xs x = times-append n xs (x ∷ []) ∙ ap (λ k. times n xs + k) (add-zero (cond (same_node n x) 1 0))

-- one node more
pub mark_one : (ms : List NodeId) (m n : BTreeMap NodeId Bool) (node q : NodeId) (again : Bool)
    → again ≡ is_some (get node_cmp m node) → get node_cmp n q ≡ cond (same_node node q) (Some again) (get node_cmp m q)
    → AreMarks ms m → get node_cmp n q ≡ mark (times q (ms ++ node ∷ []))
mark_one ms m n node q again met is marks =
    is
    ∙ elim (same_node node q) as (λ b. same_node node q ≡ b
    → cond b (Some again) (get node_cmp m q) ≡ mark (times q ms + cond b 1 0)) [
      | true ↦ λ e.
          let same : node ≡ q = node_from_same node q e in
          let seen : again ≡ is_some (mark (times q ms)) = met ∙ ap is_some (ap (get node_cmp m) same ∙ marks q) in
          ap (λ b. Some b) seen ∙ mark_again (times q ms)
      | false ↦ λ e. marks q ∙ ap mark (sym (add-zero (times q ms)))
    ] refl
    ∙ ap (λ b. mark (times q ms + cond b 1 0)) (same_node_flips node q)
    ∙ ap mark (sym (times_one_more q ms node))

-- ---- places

times_same : (b : Bool) (k : ℕ) → b ≡ true → 1 ≤ cond b 1 0 + k
times_same true k e = omega arith
times_same false k e = absurd (false≢true e)

-- a node that stands somewhere in the list is counted
pub counted : (v : NodeId) (xs : List NodeId) (j : ℕ) → slice_get xs j ≡ Some v → 1 ≤ times v xs
counted v [] j is = cc
counted v (x ∷ xs) zero is = let same : v ≡ x = cc in times_same (same_node v x) (times v xs) (same_from_node v x same)
counted v (x ∷ xs) (suc j) is = let h = counted v xs j is in omega arith

twice_by : (b : Bool) (k : ℕ) → b ≡ true → 1 ≤ k → cond b 1 0 + k ≤ 1 → ⊥
twice_by true k e some few = omega arith
twice_by false k e some few = false≢true e

twice : (v x : NodeId) (xs : List NodeId) (j : ℕ) → v ≡ x → slice_get xs j ≡ Some v → times v (x ∷ xs) ≤ 1 → ⊥
twice v x xs j same is few = twice_by (same_node v x) (times v xs) (same_from_node v x same) (counted v xs j is) few

-- a node that is counted but once stands at one place
pub once_at : (v : NodeId) (xs : List NodeId) → times v xs ≤ 1 → (i j : ℕ) → slice_get xs i ≡ Some v
    → slice_get xs j ≡ Some v → i ≡ j
once_at v [] few i j a b = cc
once_at v (x ∷ xs) few zero zero a b = refl
once_at v (x ∷ xs) few zero (suc j) a b = let same : v ≡ x = cc in absurd (twice v x xs j same b few)
once_at v (x ∷ xs) few (suc i) zero a b = let same : v ≡ x = cc in absurd (twice v x xs i same a few)
once_at v (x ∷ xs) few (suc i) (suc j) a b = ap suc (once_at v xs (omega arith) i j a b)

absent_either : (v x : NodeId) (xs : List NodeId) (b : Bool) → same_node v x ≡ b
    → ((j : ℕ) → slice_get (x ∷ xs) j ≡ Some v → ⊥) → times v xs ≡ 0 → cond b 1 0 + times v xs ≡ 0
absent_either v x xs true e none rest = absurd (none 0 (ap Some (sym (node_from_same v x e))))
absent_either v x xs false e none rest = omega arith

absent : (v : NodeId) (xs : List NodeId) → ((j : ℕ) → slice_get xs j ≡ Some v → ⊥) → times v xs ≡ 0
absent v [] none = refl
absent v (x ∷ xs) none = absent_either v x xs (same_node v x) refl none (absent v xs (λ j is. none (suc j) is))

zero_suc : (j : ℕ) → 0 ≡ suc j → ⊥
zero_suc j e = omega arith

suc_same : (i j : ℕ) → suc i ≡ suc j → i ≡ j
suc_same i j e = omega arith

few_either : (v x : NodeId) (xs : List NodeId) (b : Bool) → same_node v x ≡ b
    → ((i j : ℕ) → slice_get (x ∷ xs) i ≡ Some v → slice_get (x ∷ xs) j ≡ Some v → i ≡ j) → times v xs ≤ 1
    → cond b 1 0 + times v xs ≤ 1
few_either v x xs true e one rest =
    let none = absent v xs (λ j is. zero_suc j (one 0 (suc j) (ap Some (sym (node_from_same v x e))) is)) in
    omega arith
few_either v x xs false e one rest = omega arith

-- a node that stands at one place at most is counted but once
pub few : (v : NodeId) (xs : List NodeId) → ((i j : ℕ) → slice_get xs i ≡ Some v → slice_get xs j ≡ Some v → i ≡ j)
    → times v xs ≤ 1
few v [] one = omega arith
few v (x ∷ xs) one = few_either v x xs (same_node v x) refl one
    (few v xs (λ i j a b. suc_same i j (one (suc i) (suc j) a b)))

-- the node at a place of a line counts, and what is behind it
pub drop_one : (n : NodeId) (xs : List LineNode) (i : ℕ) (y : LineNode) → y ≡ get_or xs i y → i < length xs
    → times n (nodes_of (drop i xs)) ≡ cond (same_node n y.node) 1 0 + times n (nodes_of (drop (i + 1) xs))
drop_one n xs i y is within =
    let e : drop i xs ≡ get_or xs i y ∷ drop (i + 1) xs = rw (add-one, drop-cons xs i y) in
    ap (λ (l : List LineNode). times n (nodes_of l)) (e ∙ ap (λ (z : LineNode). z ∷ drop (i + 1) xs) (sym is))

-- the nodes up to a place of a line and the one there
pub take_one : (xs : List LineNode) (i : ℕ) (y : LineNode) → y ≡ get_or xs i y → i < length xs
    → nodes_of (take (i + 1) xs) ≡ nodes_of (take i xs) ++ y.node ∷ []
take_one xs i y is within = map_more (λ (n : LineNode). n.node) xs i y within
    ∙ ap (λ (z : LineNode). nodes_of (take i xs) ++ z.node ∷ []) (sym is)

pub drop_all : (n : NodeId) (xs : List LineNode) (i : ℕ) → length xs ≤ i → times n (nodes_of (drop i xs)) ≡ 0
drop_all n xs i past = ap (λ (l : List LineNode). times n (nodes_of l)) (drop_of_length-le xs past)

pub one_at_most : (b : Bool) → cond b 1 0 ≤ 1
one_at_most true = omega arith
one_at_most false = omega arith
