use Rattle.opl_lexer.specs.Left.{fields_left}
use Rattle.opl_objects.proofs.LineFields.{IsReadTo}
use Rattle.opl_objects.proofs.parts.Parts.read.Given as goal

abbrev pub invariant-loop-field : goal.invariant-loop-field
invariant-loop-field l = IsReadTo l.key (fields_left l.fn.fields) (fields_left l.field-iterator) l.number l.self
