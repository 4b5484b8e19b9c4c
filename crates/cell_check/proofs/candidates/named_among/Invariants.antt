use Rattle.std.proofs.Common.{◌≡◌, ◌++◌, length}
use Rattle.std.specs.List.{flat_map}
use Rattle.cell_check.specs.Candidates.{named_by_restriction}
use Rattle.cell_check.proofs.candidates.named_among.Given as goal

-- with those that are left the keys are what they are with all
abbrev pub invariant-loop-entry : goal.invariant-loop-entry
invariant-loop-entry l = l.keys.items ++ flat_map named_by_restriction l.rest
    ≡ flat_map named_by_restriction l.fn.entries

abbrev pub decreases-loop-entry : goal.decreases-loop-entry
decreases-loop-entry l = length l.rest
