use Rattle.std.proofs.Common.{◌∙◌}
use Rattle.opl_objects.specs.declared.letters.Letter.TheVariants.{Version}
use Rattle.opl_objects.proofs.parts.Parts.has_version.Goals as goal

pub returns : goal.returns
returns c = λ fields read. c.has.ensures ∙ read.marked.each Version
