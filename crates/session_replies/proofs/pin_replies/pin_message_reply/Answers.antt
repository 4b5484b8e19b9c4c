use Rattle.std.proofs.Common.{refl, subst, sym}
use Rattle.std.proofs.lemmas.Result.{IfOk-weaker}
use Rattle.session_answers.specs.Said.{said}
use Rattle.session_replies.specs.declared.pin_messages.PinMessage.{PinMessage}
use Rattle.session_replies.specs.PinReplies.{IsPinReply}
use Rattle.session_replies.proofs.pin_replies.pin_message_reply.Goals as goal

pub returns-in-Pin-clause-replies : goal.returns-in-Pin-clause-replies
returns-in-Pin-clause-replies g c =
    let R = g.F.Follower.replies (g.F.Follower.fixed c.args.readers.now.newest) in
    IfOk-weaker c.pin_reply.result _ _
    (λ r step h pins stands. let s = step h pins stands in (
      s.0,
      subst (λ (m : PinMessage). IsPinReply R h pins m (said r) s.0) (sym c.in-Pin.is) s.1,
      s.2,
    )) c.pin_reply.ensures.step

pub returns-in-Release-clause-replies : goal.returns-in-Release-clause-replies
returns-in-Release-clause-replies g c =
    let R = g.F.Follower.replies (g.F.Follower.fixed c.args.readers.now.newest) in
    IfOk-weaker c.release_reply.result _ _
    (λ r step h pins stands. let s = step h pins stands in (
      s.0,
      subst (λ (m : PinMessage). IsPinReply R h pins m (said r) s.0) (sym c.in-Release.is) s.1,
      s.2,
    )) c.release_reply.ensures.step

pub returns-in-Ask-clause-replies : goal.returns-in-Ask-clause-replies
returns-in-Ask-clause-replies g c =
    let R = g.F.Follower.replies (g.F.Follower.fixed c.args.readers.now.newest) in
    IfOk-weaker c.ask_reply.result _ _
    (λ r reply h pins stands. let s = reply h pins stands in (
      pins,
      subst (λ (m : PinMessage). IsPinReply R h pins m (said r) pins) (sym c.in-Ask.is) (s.0, s.1, s.2, refl),
      stands,
    )) c.ask_reply.ensures
