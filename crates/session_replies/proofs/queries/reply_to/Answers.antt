use Rattle.drive_queries.specs.declared.messages.Asked.TheVariants.{Reach, Unknown}
use Rattle.session_replies.specs.FurtherMessages.{further_message}
use Rattle.session_replies.proofs.RepliesAsked.{reply_as}
use Rattle.session_replies.proofs.queries.reply_to.Goals as goal

pub returns-in-Reach : goal.returns-in-Reach
returns-in-Reach g c =
    reply_as c.args.engine.now.world (g.P.Profile.rules c.args.engine.now.profile) c.args.kept.0 c.args.asked.now
    (Reach c.in-Reach.a c.in-Reach.b) (further_message c.args.line.now) c.reach_reply.result c.in-Reach.is
    c.reach_reply.ensures

pub returns-in-Unknown : goal.returns-in-Unknown
returns-in-Unknown g c =
    reply_as c.args.engine.now.world (g.P.Profile.rules c.args.engine.now.profile) c.args.kept.0 c.args.asked.now
    Unknown (further_message c.args.line.now) c.unmessaged_reply.result c.in-Unknown.is c.unmessaged_reply.ensures
