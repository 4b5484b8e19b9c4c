use Rattle.std.proofs.Common.{◌≡◌, refl, sym, subst, ◌∙◌, arith}
use Rattle.std.proofs.lemmas.Bool.{false≢true}
use Rattle.turn_automata.proofs.LongestEnds.{IsLeft, all_left, links_back}
use Rattle.turn_automata.proofs.TurnsOfVisits.{IsStopped, stops_behind, stops_last}
use Rattle.turn_automata.proofs.turns.stops.Goals as goal

pub loop-end-init : goal.loop-end-init
loop-end-init c = record {
  within = c.requires.within;
  left = λ W ps is p st. all_left ps is.closed (IsStopped W ps c.args.step) p c.args.list st;
}

pub returns-then-stop_at : goal.returns-then-stop_at
returns-then-stop_at c = λ W ps is some p st.
    let left = c.loop-end.invariant.left W ps is p st in (
      λ _. stops_behind W p c.args.step left.front left.end left.is
          ((c.stop_at.ensures W ps left.end is.turns left.at).0 c.if-stop_at.true),
      λ _. refl,
    )

pub loop-end-preserved : goal.loop-end-preserved
loop-end-preserved c =
    let down = c.requires.descends c.loop-end.end c.loop-end-test.true c.loop-end.invariant.within in
    record {
      within = omega (arith, down, c.loop-end.invariant.within);
      left = λ W ps is p st. links_back ps is.closed (IsStopped W ps c.args.step) (λ b h. h.0) c.args.links.now is.links
          p c.loop-end.end c.loop-end-test.true c.loop-end.invariant.within (c.loop-end.invariant.left W ps is p st)
          (λ q at g. false≢true (sym c.if-stop_at.false ∙ (c.stop_at.ensures W ps q is.turns at).1 g.1));
    }

pub returns : goal.returns
returns c = λ W ps is some p st.
    let none : c.loop-end.end ≡ 0 = omega (arith, c.loop-end-test.false) in
    let left : IsLeft ps (IsStopped W ps c.args.step) p 0 = subst (IsLeft ps (IsStopped W ps c.args.step) p) none
    (c.loop-end.invariant.left W ps is p st) in
    stops_last W p c.args.step ps c.args.links.now c.args.turns.now is some left c.stop_at-2.result
    (c.stop_at-2.ensures W ps left.end is.turns left.at)
