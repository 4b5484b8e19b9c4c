use Rattle.session.specs.Talking.{held, replies_of}
use Rattle.session.proofs.ClosedSessions.{ends_said, ends_unsaid, is_whole}
use Rattle.session.proofs.talk.Talk.say_last.Goals as goal

pub returns-in-Ok-clause-ends : goal.returns-in-Ok-clause-ends
returns-in-Ok-clause-ends g c = λ start read ended x same closes.
    ends_said c.store_laws.ensures (replies_of start) (held start) read ended c.args.end c.args.line.now tt x
    (g.W.Site.outside c.args.site.now) (g.W.Site.outside c.put_chunk.new.site) (is_whole c.args.end c.requires) closes
    c.in-Ok.ensures.told

pub returns-in-Err-clause-ends : goal.returns-in-Err-clause-ends
returns-in-Err-clause-ends g c = λ start read ended x same closes.
    ends_unsaid c.store_laws.ensures (replies_of start) (held start) read ended c.args.end c.args.line.now
    c.in-Err.field-0 x (g.W.Site.outside c.args.site.now) (g.W.Site.outside c.put_chunk.new.site) closes
    c.in-Err.ensures.told
