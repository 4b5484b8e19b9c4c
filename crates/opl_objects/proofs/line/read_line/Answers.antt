use Rattle.opl_objects.proofs.LineWhole.{fault_not_utf8}
use Rattle.opl_objects.proofs.line.read_line.Goals as goal

pub returns-in-Err-clause-err : goal.returns-in-Err-clause-err
returns-in-Err-clause-err c = fault_not_utf8 c.args.mode c.args.line.now c.in-Err.ensures.cases.0
