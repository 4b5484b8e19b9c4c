use Rattle.std.proofs.Common.{◌≡◌, take}
use Rattle.std.specs.List.{flat_map}
use Rattle.cells.specs.Texts.{failing_line}
use Rattle.cells.proofs.texts.rest_text.Given as goal

-- the lines of the ways so far are written
abbrev pub invariant-loop-one : goal.invariant-loop-one
invariant-loop-one l = l.out.items ≡ flat_map failing_line (take l.one-index l.failing)
