use Rattle.opl_objects.specs.StreamLines.{fault_at}
use Rattle.session.specs.Talking.{replies_of, costs_of}
use Rattle.session.proofs.ToldAnswers.{fault_answers}
use Rattle.session.proofs.BuiltAnswers.{fault_builds, fault_still}
use Rattle.session.proofs.talk.Talk.refuse_fault.Goals as goal

pub returns-clause-told : goal.returns-clause-told
returns-clause-told g c =
    let self = c.args.self.now in
    fault_answers c.store_laws.ensures (replies_of self) (g.A.Answerer.stands self.answerer) self.journal
    c.put_chunk.result c.put_chunk.ensures.named (g.W.Site.outside c.args.site.now)
    (g.W.Site.outside c.put_chunk.new.site) c.args.number (fault_at c.args.fault.now) c.in-Ok.line.items
    c.deref.result.now c.requires c.in-Ok.ensures c.deref.ensures.value c.put_chunk.ensures.told

pub returns-clause-builds : goal.returns-clause-builds
returns-clause-builds g c =
    let self = c.args.self.now in
    fault_builds c.store_laws.ensures (costs_of self) (g.A.Answerer.stands self.answerer) self.journal
    c.deref.result.now c.put_chunk.result (g.W.Site.outside c.args.site.now) (g.W.Site.outside c.put_chunk.new.site)
    c.put_chunk.ensures.told c.args.number (fault_at c.args.fault.now) c.requires

pub returns-in_default-clause-builds : goal.returns-in_default-clause-builds
returns-in_default-clause-builds g c =
    let self = c.args.self.now in
    fault_still (costs_of self) (g.A.Answerer.stands self.answerer) self.journal (g.W.Site.outside c.args.site.now)
    c.args.number (fault_at c.args.fault.now) c.requires
