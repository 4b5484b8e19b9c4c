use Rattle.std.proofs.Common.{take}
use Rattle.touched_ways.proofs.NumberLists.{AreAdded}
use Rattle.touched_ways.proofs.found_ways.FoundWays.add_all.Given as goal

-- the ways so far were added
abbrev pub invariant-loop-way : goal.invariant-loop-way
invariant-loop-way l = AreAdded l.fn.self.list.items l.self.list.items (take l.way-index l.ways)
