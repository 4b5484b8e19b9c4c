use Rattle.std.proofs.Common.{◌∙◌, IfOk, Some, ap, subst, sym}
use Rattle.std.specs.Prelude.{option_copied}
use Rattle.session_input.specs.Texts.{text_of}
use Rattle.session_answers.specs.Said.{said}
use Rattle.session_replies.specs.declared.follower.RoadFollower.{RoadFollower}
use Rattle.session_replies.specs.Replies.{IsLineReply}
use Rattle.session_replies.proofs.RoadAnswers.{unread_answered, pins_answered, newest_answered}
use Rattle.session_replies.proofs.answerer.RoadAnswererAnswerer.reply.Goals as goal

pub returns-in_default-clause-reply : goal.returns-in_default-clause-reply
returns-in_default-clause-reply g c =
    unread_answered (g.P.Profile.rules c.args.self.now.readers.newest.engine.profile) c.args.kept.0
    (text_of c.args.line.now) c.unknown_reply.result _ _ (λ h pins stands. stands) c.history_objects.ensures.some
    (sym c.text.ensures ∙ ap option_copied c.in_default.is) c.unknown_reply.ensures

pub returns-in-Some-about_pins-clause-reply : goal.returns-in-Some-about_pins-clause-reply
returns-in-Some-about_pins-clause-reply g c =
    pins_answered (g.P.Profile.rules c.args.self.now.readers.newest.engine.profile) c.args.kept.0
    (text_of c.args.line.now) c.pin_message_reply.result _ _ c.in-Some.text.now c.in_ok-about_pins.about_pins
    (sym c.text.ensures ∙ ap option_copied c.in-Some.is) c.in_ok-about_pins.ensures.asks c.in-Some-about_pins.asks
    c.in-Some-about_pins.is c.pin_message_reply.ensures.replies

pub returns-in-None-clause-reply : goal.returns-in-None-clause-reply
returns-in-None-clause-reply g c =
    let R = g.P.Profile.rules in
    let newest = c.newest.result.now in
    let reply = c.newest_reply.result in
    let text = c.in-Some.text.now in
    newest_answered (R c.args.self.now.readers.newest.engine.profile) c.args.kept.0 (text_of c.args.line.now) reply _ _
    text c.in_ok-about_pins.about_pins (sym c.text.ensures ∙ ap option_copied c.in-Some.is)
    c.in_ok-about_pins.ensures.asks newest.engine.world c.newest.ensures.stands (λ h pins stands. stands) c.in-None.is
    (subst (λ (f : RoadFollower g.row.P.Denot g.P.Profile). IfOk reply (λ r.
    IsLineReply newest.engine.world (R f.engine.profile) c.args.kept.0 (Some text) (said r))) c.newest.ensures.newest
    c.newest_reply.ensures)
