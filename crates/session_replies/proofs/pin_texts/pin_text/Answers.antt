use Rattle.std.proofs.Common.{ap}
use Rattle.std.proofs.lemmas.Result.{IfOk-weaker}
use Rattle.pinned_readers.specs.PinnedRuns.{Pinned}
use Rattle.pinned_readers.specs.Followers.{pin_answer}
use Rattle.session_replies.proofs.pin_texts.pin_text.Goals as goal

pub returns-in-Ok : goal.returns-in-Ok
returns-in-Ok c = IfOk-weaker c.pinned.result _ _
    (λ line is. (Pinned c.in-Ok.number.0, ap pin_answer c.in-Ok.is, is)) c.pinned.ensures
