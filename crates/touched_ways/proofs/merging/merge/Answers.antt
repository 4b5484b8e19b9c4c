use Rattle.std.proofs.Common.{◌⊎◌, ◌∙◌, sym, subst, Contains}
use Rattle.ordered_lists.specs.Orders.{Lists}
use Rattle.road_model.specs.Orders.{way_cmp}
use Rattle.touched_ways.proofs.NumberLists.{AreAdded, added_as}
use Rattle.touched_ways.proofs.WayLists.{ways_of_both, touched_ways}
use Rattle.touched_ways.proofs.merging.merge.Goals as goal

pub returns-clause-either : goal.returns-clause-either
returns-clause-either c =
    let all = c.add_sorted.new.list.items in
    let are = subst (λ l. AreAdded l all c.args.after.now) (c.in_ok-ways.ensures.items ∙ c.items.ensures)
    (added_as c.in_ok-ways.ways.items all c.items-2.result.now c.args.after.now c.items-2.ensures
    c.in_ok-add_sorted.ensures) in
    subst (Lists (λ w. w) way_cmp (λ w. Contains c.args.before.now w ⊎ Contains c.args.after.now w))
    (sym c.from_list.ensures)
    (ways_of_both c.leave_once.new.list.items all c.args.before.now c.args.after.now c.leave_once.ensures.ascending
    c.leave_once.ensures.exactly are)

pub returns-clause-touched : goal.returns-clause-touched
returns-clause-touched c = λ M N keys changed these those.
    touched_ways M N keys c.args.before.now c.args.after.now c.from_list.result changed these those
    (returns-clause-either c)
