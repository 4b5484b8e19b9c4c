use Rattle.session_input.specs.Texts.{text_of}
use Rattle.session.specs.Talking.{replies_of, costs_of}
use Rattle.session.proofs.ToldAnswers.{line_answers}
use Rattle.session.proofs.BuiltAnswers.{line_builds, when_ok}
use Rattle.session.proofs.talk.Talk.answer_line.Goals as goal

pub returns-clause-told : goal.returns-clause-told
returns-clause-told g c =
    let self = c.args.self.now in
    line_answers c.store_laws.ensures (replies_of self) (g.A.Answerer.stands self.answerer) self.journal
    c.put_both.result c.put_both.ensures.named (g.W.Site.outside c.args.site.now)
    (g.W.Site.outside c.put_both.new.site) (g.A.Answerer.stands c.reply.new.self) (text_of c.args.line.now)
    c.deref.result.now c.deref-2.result.now c.in-Ok.reply c.kept-kept.result c.deref.ensures.value
    c.deref-2.ensures.value c.kept-kept.ensures c.in-Ok.ensures.reply c.put_both.ensures.told

pub returns-clause-builds : goal.returns-clause-builds
returns-clause-builds g c =
    let self = c.args.self.now in
    when_ok c.put_both.result _ (line_builds c.store_laws.ensures (costs_of self) (g.A.Answerer.stands self.answerer)
    self.journal _ c.put_both.result (g.W.Site.outside c.args.site.now) (g.W.Site.outside c.put_both.new.site)
    c.put_both.ensures.told (g.A.Answerer.stands c.reply.new.self) (text_of c.args.line.now) c.kept-kept.result
    c.kept-kept.ensures
    (λ h b s is. let r = c.in-Ok.ensures.reply h b s is in (r.0, r.2)))
