use Rattle.std.proofs.Common.{sym}
use Rattle.drive_queries.specs.Messages.{asked}
use Rattle.session_replies.specs.FurtherMessages.{further_message}
use Rattle.session_replies.proofs.RepliesAsked.{reply_as}
use Rattle.session_replies.proofs.queries.newest_reply.Goals as goal

pub returns : goal.returns
returns g c =
    reply_as c.args.engine.now.world (g.P.Profile.rules c.args.engine.now.profile) c.args.kept.0
    (asked c.args.line.now) c.in_ok-asked.asked (further_message c.args.line.now) c.reply_to.result
    (sym c.in_ok-asked.ensures.asks) c.reply_to.ensures
