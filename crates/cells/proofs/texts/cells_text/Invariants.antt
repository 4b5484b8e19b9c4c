use Rattle.std.proofs.Common.{◌≡◌, take}
use Rattle.std.specs.List.{flat_map}
use Rattle.cells.specs.Texts.{cell_line}
use Rattle.cells.proofs.texts.cells_text.Given as goal

-- the lines of the cells so far are written
abbrev pub invariant-loop-planned : goal.invariant-loop-planned
invariant-loop-planned l = l.out.items ≡ flat_map cell_line (take l.planned-index l.cells)
