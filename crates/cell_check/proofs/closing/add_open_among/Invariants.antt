use Rattle.std.proofs.Common.{map, take}
use Rattle.cell_check.specs.Closing.{AddsOpen}
use Rattle.cell_check.proofs.closing.add_open_among.Given as goal

-- those so far that aren't closed were added
abbrev pub invariant-loop-key : goal.invariant-loop-key
invariant-loop-key l = AddsOpen l.world l.area (map (λ k. k) (take l.key-index l.keys)) l.fn.starts.items
    l.starts.items
