use Rattle.std.proofs.Common.{◌≡◌, ◌+◌, ◌<◌, suc, [], ◌∷◌, ◌++◌, length, Contains, sym, ap, subst, arith}
use Rattle.turn_automata.specs.Trees.{Stands, lists_of}
use Rattle.ordered_lists.proofs.ListPlaces.{if_none}
use Rattle.turn_automata.proofs.TreeLists.{edge_of, length_lists, leads, no_child}
use Rattle.turn_automata.proofs.SameEdges.{found, not_among}
use Rattle.turn_automata.proofs.tree.Tree.child.Goals as goal

pub returns-clause-within : goal.returns-clause-within
returns-clause-within c =
    let es = c.self.inside.edges.keys in
    let l : length (lists_of es) ≡ length es + 1 = length_lists es in
    let v : length (lists_of es) ≡ length c.args.self.now = ap length c.self.view_is in
    let within : c.in_ok-index.index < length es = c.in_ok-index.ensures.within in
    omega arith

pub returns-clause-some : goal.returns-clause-some
returns-clause-some c = λ p st.
    let es = c.self.inside.edges.keys in
    let e = edge_of c.args.list c.args.step in
    let k = c.in_ok-index.index in
    let q = p ++ c.args.step ∷ [] in
    let at = found es e k (sym c.in_ok-index.ensures.index) in
    let there : Stands (lists_of es) (suc k) q = leads es c.self.invariant k e p at
    (subst (λ ps. Stands ps c.args.list p) (sym c.self.view_is) st) in
    let z : suc k ≡ k + 1 = omega arith in
    subst (λ ps. Stands ps (k + 1) q) c.self.view_is (subst (λ m. Stands (lists_of es) m q) z there)

pub returns-in_err-index-clause-none : goal.returns-in_err-index-clause-none
returns-in_err-index-clause-none c = if_none _ c.from_residual.result (λ _ p st has.
    let es = c.self.inside.edges.keys in
    let e = edge_of c.args.list c.args.step in
    no_child es c.self.invariant c.args.list c.args.step p (not_among es e (sym c.in_err-index.ensures.found))
    (subst (λ ps. Stands ps c.args.list p) (sym c.self.view_is) st)
    (subst (λ ps. Contains ps (p ++ c.args.step ∷ [])) (sym c.self.view_is) has))
