use Rattle.std.proofs.Common.{◌≡◌, ◌++◌, List, flat_map, length}
use Rattle.road_base.specs.declared.event.Event.{Event}
use Rattle.object_store.specs.Listed.{AreEntriesOf, is_any}
use Rattle.cell_check.specs.Candidates.{named_by_highway}
use Rattle.cell_check.specs.Closing.{AddsOpen}
use Rattle.cell_check.specs.Owning.{owned_by}
use Rattle.cell_check.proofs.gathering.add_of_highways.Given as goal

-- of the entries so far all was added
abbrev pub invariant-loop-entry : goal.invariant-loop-entry
invariant-loop-entry g l = record {
  passed : List Event;
  split : passed ++ l.rest ≡ l.fn.entries;
  opened : AreEntriesOf is_any (g.M.World.objects l.world) l.fn.entries
      → AddsOpen (g.M.World.objects l.world) l.area (flat_map named_by_highway passed) l.fn.found.starts.items
      l.found.starts.items;
  owned : AreEntriesOf is_any (g.M.World.objects l.world) l.fn.entries
      → l.found.own.items ≡ l.fn.found.own.items ++ flat_map (owned_by (g.M.World.objects l.world) l.cell) passed;
}

abbrev pub decreases-loop-entry : goal.decreases-loop-entry
decreases-loop-entry g l = length l.rest
