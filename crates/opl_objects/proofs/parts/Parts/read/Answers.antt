use Rattle.opl_lexer.specs.Left.{fields_left}
use Rattle.opl_objects.proofs.LineFields.{to_more, to_all, to_fault}
use Rattle.opl_objects.proofs.parts.Parts.read.Goals as goal

pub loop-field-preserved : goal.loop-field-preserved
loop-field-preserved c =
    to_more c.args.key (fields_left c.args.fields) (fields_left c.loop-field.field-iterator)
    (fields_left c.next.new.self) c.in-Some.field.now c.loop-field.number c.loop-field.self c.take.new.self
    c.loop-field.invariant c.in-Some.ensures.steps c.in-Ok.ensures.good c.in-Ok.ensures.read

pub returns-in-Err-clause-err : goal.returns-in-Err-clause-err
returns-in-Err-clause-err c =
    to_fault c.args.key (fields_left c.args.fields) (fields_left c.loop-field.field-iterator)
    (fields_left c.next.new.self) c.in-Some.field.now c.loop-field.number c.loop-field.self c.in-Err.error
    c.fault_at.result
    c.loop-field.invariant c.in-Some.ensures.steps c.in-Err.ensures.err c.fault_at.ensures

pub returns-clause-good : goal.returns-clause-good
returns-clause-good c = (to_all c.args.key (fields_left c.args.fields) (fields_left c.loop-field.field-iterator)
    c.loop-field.number c.loop-field.self c.loop-field.invariant c.in-None.ensures.steps.0).0

pub returns-clause-read : goal.returns-clause-read
returns-clause-read c = (to_all c.args.key (fields_left c.args.fields) (fields_left c.loop-field.field-iterator)
    c.loop-field.number c.loop-field.self c.loop-field.invariant c.in-None.ensures.steps.0).1
