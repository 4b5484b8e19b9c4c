use Rattle.std.proofs.Common.{subst}
use Rattle.session.specs.declared.stop.Stop.{Stop}
use Rattle.session.specs.Following.{Since, Halts}
use Rattle.session.specs.Talking.{held, replies_of}
use Rattle.session.proofs.talk.Talk.close.Goals as goal

pub returns-in-Limit-clause-ends : goal.returns-in-Limit-clause-ends
returns-in-Limit-clause-ends g c = λ start read ended x same halts.
    c.say_last.ensures.ends start read ended x same
    (subst (λ (s : Stop). Since (held start) (λ opening w v. Halts (replies_of start) opening read ended s w v) x
    (g.W.Site.outside c.args.site.now)) c.in-Limit.is halts)
