use Rattle.std.proofs.Common.{ℤ, map, take}
use Rattle.layered_maps.specs.Filters.{IsMarked, AreMarked}
use Rattle.layered_maps.specs.Layers.{pair}
use Rattle.layered_maps.proofs.entry_run.EntryRun.marked.Given as goal

-- the keys that were visited are marked, and what was marked before
abbrev pub invariant-loop-entry : goal.invariant-loop-entry
invariant-loop-entry g l =
    AreMarked g.K.Ord.cmp g.K.Slotted.number (map pair (take l.entry-index l.entry-items)) l.all
    × ((number : ℤ) → IsMarked l.fn.marks number → IsMarked l.all number)
