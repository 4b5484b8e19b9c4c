use Rattle.session_input.proofs.FrameSteps.{frame_ended}
use Rattle.session_input.proofs.next.end_frame.Goals as goal

pub returns-clause-next : goal.returns-clause-next
returns-clause-next c = λ front line has lacks ends.
    rw c.number-number.ensures
    (frame_ended front line c.args.frame c.in_ok-change.change has lacks ends c.in_ok-change.ensures.ok)
