use Rattle.std.proofs.Common.{◌≡◌, ◌++◌, take}
use Rattle.std.specs.Prelude.{filter, filter_map}
use Rattle.cell_check.specs.Outcomes.{is_passed, failing_in}
use Rattle.cell_check.proofs.checking.tell_all.Given as goal

-- the ways so far were added
abbrev pub invariant-loop-way : goal.invariant-loop-way
invariant-loop-way l = record {
  passing : l.checked.passing.items
      ≡ l.fn.checked.passing.items ++ filter (is_passed l.search) (take l.way-index l.ways);
  failing : l.checked.failing.items
      ≡ l.fn.checked.failing.items ++ filter_map (failing_in l.search) (take l.way-index l.ways);
}
