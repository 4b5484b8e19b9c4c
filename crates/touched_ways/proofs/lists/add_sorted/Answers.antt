use Rattle.touched_ways.proofs.NumberLists.{contains_sorted}
use Rattle.touched_ways.proofs.lists.add_sorted.Goals as goal

pub returns : goal.returns
returns g c =
    contains_sorted c.args.list.now.items c.extend_from_slice.new.self.items c.sort.new.self.items c.args.numbers.now
    c.in_ok-extend_from_slice.ensures.items c.in_ok-sort.ensures.permutation
