use Rattle.std.proofs.Common.{sym, ap, ◌∙◌}
use Rattle.cells.specs.Commands.{area_of_parts}
use Rattle.cells.proofs.areas.area_of.Goals as goal

pub returns-in-Some : goal.returns-in-Some
returns-in-Some c = c.behind_west.ensures ∙ ap area_of_parts (sym c.in-Some.ensures.some)

pub returns-in-None : goal.returns-in-None
returns-in-None c = ap area_of_parts (sym c.in-None.ensures.none)
