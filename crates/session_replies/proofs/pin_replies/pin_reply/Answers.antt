use Rattle.std.proofs.Common.{◌∙◌, Option, IfSome, subst}
use Rattle.pinned_readers.specs.PinnedRuns.{PinAnswer, IsPinStep}
use Rattle.pinned_readers.specs.Followers.{Goes}
use Rattle.session_replies.proofs.pin_replies.pin_reply.Goals as goal

pub returns-clause-step : goal.returns-clause-step
returns-clause-step g c =
    let told = c.in_ok-line.ensures in
    let goes =
    subst (λ (o : Option PinAnswer). IfSome o (λ answer. Goes g.F.Follower.objects c.args.readers.now
    c.pin-answer.new.self (λ h pins then. IsPinStep h pins c.args.reader answer then))) told.1
    c.pin-answer.ensures.step in
    λ h pins stands.
    let s = goes h pins stands in (s.0, (told.0, s.1, c.line_alone.ensures ∙ told.2), s.2)
