use Rattle.bounded_input.proofs.input.ReadInput.finish.Goals as goal

pub returns-in-Ok-clause-ok : goal.returns-in-Ok-clause-ok
returns-in-Ok-clause-ok c = λ mode read holds. c.in-Ok.ensures.ok mode read holds.has_read

pub returns-in-Err-Fault-clause-err : goal.returns-in-Err-Fault-clause-err
returns-in-Err-Fault-clause-err c = λ mode read holds. rw c.in-Err-Fault.field-0-is at c.in-Err-Fault.ensures.err mode
    read holds.has_read
