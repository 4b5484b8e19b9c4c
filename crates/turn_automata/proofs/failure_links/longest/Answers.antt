use Rattle.std.proofs.Common.{◌≡◌, arith, subst}
use Rattle.turn_automata.proofs.LongestEnds.{IsLeft, GoesOn, prefix_there, all_left, goes_on, links_back, begins}
use Rattle.turn_automata.proofs.failure_links.longest.Goals as goal

pub loop-end-init : goal.loop-end-init
loop-end-init c = record {
  within = c.requires.within;
  left = λ are p st. all_left c.args.tree.now c.closed.ensures (GoesOn c.args.tree.now c.args.step) p c.args.list st;
}

pub returns-in-Some-clause-longest : goal.returns-in-Some-clause-longest
returns-in-Some-clause-longest c = λ are p st.
    let left = c.loop-end.invariant.left are p st in
    goes_on c.args.tree.now c.closed.ensures p c.args.step c.loop-end.end c.in-Some.child left
    (c.in-Some.ensures.some left.end left.at)

pub loop-end-preserved : goal.loop-end-preserved
loop-end-preserved c =
    let down = c.requires.descends c.loop-end.end c.loop-end-test.true c.loop-end.invariant.within in
    record {
      within = omega (arith, down, c.loop-end.invariant.within);
      left = λ are p st. links_back c.args.tree.now c.closed.ensures (GoesOn c.args.tree.now c.args.step)
          (λ b h. prefix_there c.args.tree.now c.closed.ensures b c.args.step h) c.args.links.now are p c.loop-end.end
          c.loop-end-test.true c.loop-end.invariant.within (c.loop-end.invariant.left are p st)
          c.in_default.ensures.none;
    }

pub returns-clause-longest : goal.returns-clause-longest
returns-clause-longest c = λ are p st.
    let left = c.loop-end.invariant.left are p st in
    let none : c.loop-end.end ≡ 0 = omega (arith, c.loop-end-test.false) in
    begins c.args.tree.now c.closed.ensures p c.args.step c.begun.result
    (subst (IsLeft c.args.tree.now (GoesOn c.args.tree.now c.args.step) p) none left) c.begun.ensures.longest
