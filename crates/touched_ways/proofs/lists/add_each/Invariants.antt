use Rattle.std.proofs.Common.{take}
use Rattle.touched_ways.proofs.NumberLists.{AreAdded}
use Rattle.touched_ways.proofs.lists.add_each.Given as goal

-- the numbers so far were added
abbrev pub invariant-loop-number : goal.invariant-loop-number
invariant-loop-number g l = AreAdded l.fn.list.items l.list.items (take l.number-index l.numbers)
