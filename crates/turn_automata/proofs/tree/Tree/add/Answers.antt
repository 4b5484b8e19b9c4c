use Rattle.std.proofs.Common.{◌≡◌, ◌+◌, ◌∷◌, ◌++◌, [], length, sym, ap, subst, arith}
use Rattle.turn_automata.specs.Trees.{Stands, lists_of, IsGrownBy}
use Rattle.turn_automata.proofs.TreeLists.{length_lists}
use Rattle.turn_automata.proofs.GrownTrees.{tree_more, grows, leads_there}
use Rattle.turn_automata.proofs.tree.Tree.add.Goals as goal

pub invariant_of-self-2 : goal.invariant_of-self-2
invariant_of-self-2 c =
    let es = c.self.inside.edges.keys in
    let l : length (lists_of es) ≡ length es + 1 = length_lists es in
    let v : length (lists_of es) ≡ length c.args.self.now = ap length c.self.view_is in
    tree_more es c.insert_full.new.self.keys c.args.list c.args.step c.self.invariant (omega (arith, c.requires))
    c.in_ok-index.ensures.keys

pub returns-clause-number : goal.returns-clause-number
returns-clause-number c = λ p st.
    let es = c.self.inside.edges.keys in
    let l : length (lists_of es) ≡ length es + 1 = length_lists es in
    let v : length (lists_of es) ≡ length c.args.self.now = ap length c.self.view_is in
    let s = c.in_ok-index.ensures.stored in
    leads_there es c.insert_full.new.self.keys c.args.list c.args.step c.self.invariant (omega (arith, c.requires))
    c.in_ok-index.ensures.keys c.in_ok-index.index s.0 s.1 s.2 p
    (subst (λ ps. Stands ps c.args.list p) (sym c.self.view_is) st)

pub returns-clause-grown : goal.returns-clause-grown
returns-clause-grown c = λ p st.
    let es = c.self.inside.edges.keys in
    let l : length (lists_of es) ≡ length es + 1 = length_lists es in
    let v : length (lists_of es) ≡ length c.args.self.now = ap length c.self.view_is in
    subst (λ ps. IsGrownBy ps (p ++ c.args.step ∷ []) (lists_of c.insert_full.new.self.keys)) c.self.view_is
    (grows es c.insert_full.new.self.keys c.args.list c.args.step c.self.invariant (omega (arith, c.requires))
    c.in_ok-index.ensures.keys p (subst (λ ps. Stands ps c.args.list p) (sym c.self.view_is) st))
