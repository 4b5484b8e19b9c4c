use Rattle.std.proofs.Common.{◌⊎◌, sym, subst, Contains}
use Rattle.ordered_lists.specs.Orders.{Lists}
use Rattle.road_model.specs.Orders.{way_cmp}
use Rattle.touched_ways.proofs.NumberLists.{added_as}
use Rattle.touched_ways.proofs.WayLists.{ways_with_new}
use Rattle.touched_ways.proofs.search.LinkSearch.ways_with.Goals as goal

pub returns : goal.returns
returns c =
    let one = c.args.self.ways.all.items in
    let last = c.args.last.items in
    let new = c.leave_once.new.list.items in
    let all = c.add_once.new.list.items in
    subst (Lists (λ w. w) way_cmp (λ w. Contains one w ⊎ Contains last w)) (sym c.from_list.ensures)
    (ways_with_new all one new last c.in_ok-add_once.ensures.ascending
    (added_as one all c.as_slice.result.now new c.as_slice.ensures.value c.in_ok-add_once.ensures.exactly)
    c.leave_once.ensures.exactly)
