use Rattle.std.proofs.Common.{Ok, Err, length, true, refl, subst, ◌∙◌}
use Rattle.session_input.specs.declared.received.InputEnd.{InputEnd}
use Rattle.session_input.specs.Reading.{IsEnding}
use Rattle.session.specs.Talking.{held, replies_of}
use Rattle.session.proofs.ClosedSessions.{ends_done, ends_memory, closes_unfinished, ends_answered, halts_last}
use Rattle.session.proofs.GoingTalks.{answers_at, talk_ready}
use Rattle.session.proofs.BuiltSessions.{ends_building, last_building}
use Rattle.session.proofs.talk.Talk.finish.Goals as goal

pub returns-in-Err-clause-ends : goal.returns-in-Err-clause-ends
returns-in-Err-clause-ends g c = λ start read x going.
    let talk = c.args.self.now in
    ends_memory c.store_laws.ensures (replies_of start) (held start) read true c.args.input
    (g.A.Answerer.stands talk.answerer) talk.journal x (g.W.Site.outside c.args.site.now) going.goes

pub returns-in-Ok-Done-clause-ends : goal.returns-in-Ok-Done-clause-ends
returns-in-Ok-Done-clause-ends g c = λ start read x going.
    let talk = c.args.self.now in
    let ended = c.in-Ok-Done in
    let goes = going.goes in
    ends_done c.store_laws.ensures (replies_of start) (held start) read true c.args.input
    (g.A.Answerer.stands talk.answerer) talk.journal x (g.W.Site.outside c.args.site.now) goes refl
    (subst (λ (e : InputEnd). IsEnding goes.pending e) ended.field-0-is
    (ended.ensures.ended (length goes.front) goes.pending goes.holds))

-- ---- inside a frame

pub returns-in-Ok-clause-ends : goal.returns-in-Ok-clause-ends
returns-in-Ok-clause-ends g c = λ start read x going.
    let talk = c.args.self.now in
    let ended = c.in-Ok-Unfinished in
    let goes = going.goes in
    c.say_last.ensures.ends start read true x going.same
    (closes_unfinished c.store_laws.ensures (replies_of start) (held start) read true c.args.input
    (g.A.Answerer.stands talk.answerer) talk.journal x (g.W.Site.outside c.args.site.now) goes refl ended.number
    c.deref.result.now
    (subst (λ (e : InputEnd). IsEnding goes.pending e) ended.field-0-is
    (ended.ensures.ended (length goes.front) goes.pending goes.holds))
    (c.deref.ensures.value ∙ c.in-Ok.ensures))

pub returns-in-Ok-Unfinished-clause-ends : goal.returns-in-Ok-Unfinished-clause-ends
returns-in-Ok-Unfinished-clause-ends g c = λ start read x going.
    let talk = c.args.self.now in
    ends_memory c.store_laws.ensures (replies_of start) (held start) read true c.args.input
    (g.A.Answerer.stands talk.answerer) talk.journal x (g.W.Site.outside c.args.site.now) going.goes

-- ---- behind a last message

pub answer-requires-clause-ready : goal.answer-requires-clause-ready
answer-requires-clause-ready g c =
    let goes = c.requires.goes in
    talk_ready goes.0 c.args.self.now goes.1 c.args.input goes.2 (g.W.Site.outside c.args.site.now) goes.3

pub returns-in-Ok-answer-clause-ends : goal.returns-in-Ok-answer-clause-ends
returns-in-Ok-answer-clause-ends g c = λ start read x going.
    let talk = c.args.self.now in
    let ended = c.in-Ok-Last in
    let after = c.answer.new.self in
    let goes = going.goes in
    let was = g.W.Site.outside c.args.site.now in
    let now = g.W.Site.outside c.answer.new.site in
    ends_answered c.store_laws.ensures (replies_of start) (held start) read true c.args.input
    (g.A.Answerer.stands talk.answerer) talk.journal x was goes refl ended.received
    (subst (λ (e : InputEnd). IsEnding goes.pending e) ended.field-0-is
    (ended.ensures.ended (length goes.front) goes.pending goes.holds))
    (g.A.Answerer.stands after.answerer) after.journal now tt
    (answers_at start talk after going.same ended.received (Ok tt) was now c.in-Ok-answer.ensures.told)

pub returns-clause-ends : goal.returns-clause-ends
returns-clause-ends g c = λ start read x going.
    let talk = c.args.self.now in
    let ended = c.in-Ok-Last in
    let after = c.answer.new.self in
    let goes = going.goes in
    let was = g.W.Site.outside c.args.site.now in
    let now = g.W.Site.outside c.answer.new.site in
    c.close.ensures.ends start read true x (c.in-Err-answer.ensures.fixed ∙ going.same)
    (halts_last c.store_laws.ensures (replies_of start) (held start) read true c.args.input
    (g.A.Answerer.stands talk.answerer) talk.journal x was goes refl ended.received
    (subst (λ (e : InputEnd). IsEnding goes.pending e) ended.field-0-is
    (ended.ensures.ended (length goes.front) goes.pending goes.holds))
    (g.A.Answerer.stands after.answerer) after.journal now c.in-Err-answer.stop
    (answers_at start talk after going.same ended.received (Err c.in-Err-answer.stop) was now
    c.in-Err-answer.ensures.told))

-- ---- how many blocks were built

pub returns-in-Err-clause-builds : goal.returns-in-Err-clause-builds
returns-in-Err-clause-builds g c =
    ends_building c.args.self.now c.args.input c.args.steps.now (g.W.Site.outside c.args.site.now)

pub returns-in-Ok-Done-clause-builds : goal.returns-in-Ok-Done-clause-builds
returns-in-Ok-Done-clause-builds g c =
    ends_building c.args.self.now c.args.input c.args.steps.now (g.W.Site.outside c.args.site.now)

pub returns-in-Ok-clause-builds : goal.returns-in-Ok-clause-builds
returns-in-Ok-clause-builds g c =
    ends_building c.args.self.now c.args.input c.args.steps.now (g.W.Site.outside c.args.site.now)

pub returns-in-Ok-Unfinished-clause-builds : goal.returns-in-Ok-Unfinished-clause-builds
returns-in-Ok-Unfinished-clause-builds g c =
    ends_building c.args.self.now c.args.input c.args.steps.now (g.W.Site.outside c.args.site.now)

pub returns-in-Ok-answer-clause-builds : goal.returns-in-Ok-answer-clause-builds
returns-in-Ok-answer-clause-builds g c =
    let ended = c.in-Ok-Last in
    last_building c.args.self.now c.args.input c.args.steps.now (g.W.Site.outside c.args.site.now)
    ended.received c.answer.new.self c.answer.new.steps (g.W.Site.outside c.answer.new.site) (Ok tt)
    (λ before bytes holds. subst (λ (e : InputEnd). IsEnding bytes e) ended.field-0-is (ended.ensures.ended before bytes
    holds)) c.in-Ok-answer.ensures.builds

pub returns-clause-builds : goal.returns-clause-builds
returns-clause-builds g c =
    let ended = c.in-Ok-Last in
    last_building c.args.self.now c.args.input c.args.steps.now (g.W.Site.outside c.args.site.now)
    ended.received c.answer.new.self c.answer.new.steps (g.W.Site.outside c.answer.new.site) (Err c.in-Err-answer.stop)
    (λ before bytes holds. subst (λ (e : InputEnd). IsEnding bytes e) ended.field-0-is (ended.ensures.ended before bytes
    holds)) c.in-Err-answer.ensures.builds
