use Rattle.std.proofs.Common.{◌≡◌, take}
use Rattle.std.specs.List.{flat_map}
use Rattle.cells.specs.Texts.{passing_line}
use Rattle.cells.proofs.texts.passing_lines.Given as goal

-- the lines of the ways so far are written
abbrev pub invariant-loop-way : goal.invariant-loop-way
invariant-loop-way l = l.out.items ≡ flat_map passing_line (take l.way-index l.passing)
