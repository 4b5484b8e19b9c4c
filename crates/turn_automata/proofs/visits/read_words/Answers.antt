use Rattle.std.proofs.Common.{◌≤◌, length, arith}
use Rattle.turn_automata.proofs.WordVisits.{starts, all_visits, all_lists}
use Rattle.turn_automata.proofs.visits.read_words.Goals as goal

pub loop-at-init : goal.loop-at-init
loop-at-init c = starts c.args.words.now c.new-tree.result c.new-tree.ensures c.in_ok-visits.visits.items
    c.in_ok-visits.ensures

pub returns-clause-lists : goal.returns-clause-lists
returns-clause-lists c =
    let done : length c.loop-at.visits.items ≤ c.loop-at.at = grind (arith, c.loop-at-test.false, c.len.ensures) in
    all_lists c.args.words.now c.loop-at.tree c.closed.ensures c.loop-at.visits.items c.loop-at.at c.loop-at.invariant
    done

pub returns-clause-visits : goal.returns-clause-visits
returns-clause-visits c =
    let done : length c.loop-at.visits.items ≤ c.loop-at.at = grind (arith, c.loop-at-test.false, c.len.ensures) in
    all_visits c.args.words.now c.loop-at.tree c.closed.ensures c.loop-at.visits.items c.loop-at.at c.loop-at.invariant
    done
