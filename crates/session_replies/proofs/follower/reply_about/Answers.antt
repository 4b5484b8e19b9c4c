use Rattle.road_model.specs.declared.follower.Question.TheVariants.{Reach}
use Rattle.session_replies.proofs.FollowedQuestions.{answered_as}
use Rattle.session_replies.proofs.follower.reply_about.Goals as goal

pub returns-in-Reach : goal.returns-in-Reach
returns-in-Reach g c =
    answered_as (g.P.Profile.rules c.args.engine.now.profile) c.args.engine.now.world c.args.number.0
    c.args.question.now (Reach c.in-Reach.a c.in-Reach.b) c.reach_reply.result c.in-Reach.is c.reach_reply.ensures
