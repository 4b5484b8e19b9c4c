use Rattle.std.proofs.Common.{inr, Ok, Err}
use Rattle.session.specs.Talking.{held, replies_of, costs_of}
use Rattle.session.specs.declared.stop.Stop.TheVariants.{NoMemory}
use Rattle.session.proofs.AnsweredMessages.{room_there, is_spelled, under_number}
use Rattle.session.proofs.ToldAnswers.{change_answers, change_fails}
use Rattle.session.proofs.BuiltAnswers.{change_builds_still, change_builds_only, change_builds_kept}
use Rattle.session.proofs.talk.Talk.accept.Goals as goal

-- ---- there is no memory to follow the change

pub returns-in_default-follow-clause-builds : goal.returns-in_default-follow-clause-builds
returns-in_default-follow-clause-builds g c =
    let self = c.args.self.now in
    let events = c.args.events.now in
    let asked = c.in-Ok-spell in
    let room = room_there self.journal c.args.number events asked.spelled c.in-Some.change c.in-Some.is
    asked.ensures.room in
    change_builds_still c.store_laws.ensures (costs_of self) c.args.number events self.journal self.journal
    (replies_of self) (g.A.Answerer.stands self.answerer) (g.A.Answerer.stands c.follow.new.self) c.args.steps.now
    c.follow.new.steps c.requires.next room (held self) NoMemory (g.W.Site.outside c.args.site.now)
    c.in_default-follow.ensures.failed

-- ---- the change is kept, and told

pub returns-in-Ok-add-clause-told : goal.returns-in-Ok-add-clause-told
returns-in-Ok-add-clause-told g c =
    let self = c.args.self.now in
    let events = c.args.events.now in
    let asked = c.in-Ok-spell in
    let spells = is_spelled self.journal c.args.number events asked.spelled c.in-Some.change c.in-Some.is
    asked.ensures.spells in
    let answer = under_number self.journal c.args.number events asked.spelled c.in-Some.change c.in-Some.is
    asked.ensures.number c.add.new.self (Ok tt) _ _ (c.in-Ok-add.ensures.answer events spells) in
    change_answers c.store_laws.ensures (replies_of self) c.args.number events self.journal
    c.add.new.self (g.A.Answerer.stands self.answerer) (g.A.Answerer.stands c.follow.new.self) _ _
    (g.W.Site.outside c.args.site.now) (g.W.Site.outside c.add.new.site) (g.W.Site.outside c.put_chunk.new.site) tt
    c.in-Ok.line.items c.deref.result.now c.put_chunk.result c.put_chunk.ensures.named answer
    c.in-Ok-follow.ensures.follows c.in-Ok.ensures c.deref.ensures.value (c.in-Ok-add.ensures.told events spells)
    c.put_chunk.ensures.told

pub returns-in-Ok-add-clause-builds : goal.returns-in-Ok-add-clause-builds
returns-in-Ok-add-clause-builds g c =
    let self = c.args.self.now in
    let events = c.args.events.now in
    let asked = c.in-Ok-spell in
    let room = room_there self.journal c.args.number events asked.spelled c.in-Some.change c.in-Some.is
    asked.ensures.room in
    let spells = is_spelled self.journal c.args.number events asked.spelled c.in-Some.change c.in-Some.is
    asked.ensures.spells in
    let answer = under_number self.journal c.args.number events asked.spelled c.in-Some.change c.in-Some.is
    asked.ensures.number c.add.new.self (Ok tt) _ _ (c.in-Ok-add.ensures.answer events spells) in
    change_builds_kept c.store_laws.ensures (costs_of self) c.args.number events self.journal
    c.add.new.self (replies_of self) (g.A.Answerer.stands self.answerer) (g.A.Answerer.stands c.follow.new.self)
    c.args.steps.now c.follow.new.steps c.requires.next room
    c.in-Ok-follow.ensures.few _ _ tt answer c.in-Ok-follow.ensures.follows
    (g.W.Site.outside c.args.site.now) (g.W.Site.outside c.add.new.site) (g.W.Site.outside c.put_chunk.new.site)
    c.deref.result.now c.put_chunk.result (c.in-Ok-add.ensures.told events spells) c.put_chunk.ensures.told

-- ---- the change isn't kept

pub returns-clause-told : goal.returns-clause-told
returns-clause-told g c =
    let self = c.args.self.now in
    let events = c.args.events.now in
    let asked = c.in-Ok-spell in
    let spells = is_spelled self.journal c.args.number events asked.spelled c.in-Some.change c.in-Some.is
    asked.ensures.spells in
    let answer = under_number self.journal c.args.number events asked.spelled c.in-Some.change c.in-Some.is
    asked.ensures.number c.add.new.self (Err c.in-Err.error) _ _ (c.in-Err.ensures.answer events spells) in
    change_fails c.store_laws.ensures (replies_of self) c.args.number events self.journal
    c.add.new.self (g.A.Answerer.stands self.answerer) (g.A.Answerer.stands c.follow.new.self) _ _
    (g.W.Site.outside c.args.site.now) (g.W.Site.outside c.add.new.site) c.in-Err.error c.stop_of.result
    c.requires.not_closed answer c.stop_of.ensures (c.in-Err.ensures.told events spells)

pub returns-clause-builds : goal.returns-clause-builds
returns-clause-builds g c =
    let self = c.args.self.now in
    let events = c.args.events.now in
    let asked = c.in-Ok-spell in
    let room = room_there self.journal c.args.number events asked.spelled c.in-Some.change c.in-Some.is
    asked.ensures.room in
    let spells = is_spelled self.journal c.args.number events asked.spelled c.in-Some.change c.in-Some.is
    asked.ensures.spells in
    change_builds_only c.store_laws.ensures (costs_of self) c.args.number events self.journal
    c.add.new.self (replies_of self) (g.A.Answerer.stands self.answerer) (g.A.Answerer.stands c.follow.new.self)
    c.args.steps.now c.follow.new.steps c.requires.next room
    _ (held self) c.stop_of.result (g.W.Site.outside c.args.site.now) (g.W.Site.outside c.add.new.site)
    (λ h b M s is has. inr (c.in-Ok-follow.ensures.few h b M s is has)) (c.in-Err.ensures.told events spells)
