use Rattle.std.proofs.Common.{ap, ◌∙◌}
use Rattle.std.specs.List.{flat_map}
use Rattle.cells.specs.Texts.{failing_line}
use Rattle.cells.proofs.made.rest.Goals as goal

pub returns : goal.returns
returns c = record {
  objects = c.in_ok-world.world;
  applied = c.in_ok-world.ensures;
  failing = c.in_ok-checked.checked.failing.items;
  are = c.in_ok-checked.ensures.failing;
  spelled = c.in_ok-lines.ensures ∙ ap (flat_map failing_line) c.deref.ensures.value;
}
