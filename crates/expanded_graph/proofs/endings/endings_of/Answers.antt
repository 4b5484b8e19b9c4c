-- One state more was looked at, all were at the end, and they are sorted by piece.
use Rattle.std.proofs.Common.{◌≡◌, ◌+◌, vec_len, sym, ap, ◌∙◌, subst, arith}
use Rattle.std.proofs.lemmas.Option.{slice_get_within}
use Rattle.expanded_graph.proofs.EndingStates.{AreEndingsBelow, one_more, no_more, all_endings, no_endings}
use Rattle.expanded_graph.proofs.endings.endings_of.Goals as goal
use Rattle.expanded_graph.proofs.endings.endings_of.Goals.{in-Some+in_ok-push, in_default}

pub loop-number-init : goal.loop-number-init
loop-number-init c =
    let m = c.args.states.now.automaton in
    let facts = c.args.states.now.facts.items in
    subst (AreEndingsBelow m facts 1) (sym c.new-endings.ensures.items) (no_endings m facts c.closed.ensures.closed)

pub loop-number-preserved : goal.loop-number-preserved
loop-number-preserved c =
    let m = c.args.states.now.automaton in
    let facts = c.args.states.now.facts.items in
    let n = c.loop-number.number in
    let so_far = c.loop-number.endings.items in
    elim c.match-piece_ended.branch [
      | in-Some+in_ok-push w ↦ subst (AreEndingsBelow m facts (n + 1))
          (sym (ap (λ v. v.items) w.endings-is ∙ w.in_ok-push.ensures.items))
          (one_more m facts n so_far c.loop-number.invariant w.in-Some.piece
          ((c.piece_ended.ensures w.in-Some.piece).0 w.in-Some.is))
      | in_default w ↦ subst (AreEndingsBelow m facts (n + 1)) (sym (ap (λ v. v.items) w.endings-is))
          (no_more m facts n so_far c.loop-number.invariant
          (λ name h. w.in_default.not-Some name ((c.piece_ended.ensures name).1 h)))
    ]

pub returns : goal.returns
returns c =
    let m = c.args.states.now.automaton in
    let facts = c.args.states.now.facts.items in
    all_endings m facts c.loop-number.number c.loop-number.endings.items c.loop-number.invariant
    (λ w n e.
    let within = slice_get_within m.states n _ e.at in
    let len : c.len-number-end.result ≡ vec_len c.args.states.now.facts = c.len-number-end.ensures in
    omega (arith, c.requires, c.loop-number-test.false))
    c.name_order.ensures.names c.name_order.ensures.name_ties c.put_in_order.new.endings.items
    c.in_ok-put_in_order.ensures.stable c.in_ok-put_in_order.ensures.sorted
