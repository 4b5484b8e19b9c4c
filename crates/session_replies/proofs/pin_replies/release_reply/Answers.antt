use Rattle.std.proofs.Common.{◌∙◌}
use Rattle.pinned_readers.specs.Followers.{release_answer}
use Rattle.session_replies.proofs.pin_replies.release_reply.Goals as goal

pub returns-clause-step : goal.returns-clause-step
returns-clause-step g c = λ h pins stands.
    let s = c.release-answer.ensures.step h pins stands in
    (s.0, (release_answer c.release-answer.result, s.1, c.line_alone.ensures ∙ c.in_ok-line.ensures), s.2)
