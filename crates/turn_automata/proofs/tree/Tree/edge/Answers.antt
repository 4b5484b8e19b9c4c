use Rattle.std.proofs.Common.{◌≡◌, ◌+◌, ◌-◌, ◌<◌, ◌≤◌, ℕ, suc, [], ◌∷◌, ◌++◌, length, sym, ap, subst, arith}
use Rattle.turn_automata.specs.Trees.{Stands, lists_of}
use Rattle.turn_automata.proofs.TreeLists.{length_lists, leads}
use Rattle.turn_automata.proofs.tree.Tree.edge.Goals as goal

pub index-edge-requires : goal.index-edge-requires
index-edge-requires c =
    let es = c.self.inside.edges.keys in
    let l : length (lists_of es) ≡ length es + 1 = length_lists es in
    let v : length (lists_of es) ≡ length c.args.self.now = ap length c.self.view_is in
    omega arith

next_number : (n : ℕ) → 0 < n → suc (n - 1) ≡ n
next_number n h = omega arith

pub returns-clause-less : goal.returns-clause-less
returns-clause-less c =
    let low : c.index-edge.result.now.from ≤ c.args.list - 1 = c.self.invariant.from (c.args.list - 1)
    c.index-edge.result.now c.index-edge.ensures in
    omega arith

pub returns-clause-is : goal.returns-clause-is
returns-clause-is c = λ p st.
    let es = c.self.inside.edges.keys in
    let e = c.index-edge.result.now in
    let q = p ++ e.step ∷ [] in
    let there : Stands (lists_of es) (suc (c.args.list - 1)) q = leads es c.self.invariant (c.args.list - 1) e p
    c.index-edge.ensures (subst (λ ps. Stands ps e.from p) (sym c.self.view_is) st) in
    subst (λ ps. Stands ps c.args.list q) c.self.view_is
    (subst (λ m. Stands (lists_of es) m q) (next_number c.args.list c.requires.grown) there)
