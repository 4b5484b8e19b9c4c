use Rattle.std.proofs.Common.{◌++◌, ◌+◌, ◌≤◌, ◌^◌, ℕ, List, [], IfSome, length, take, drop, subst, false, arith}
use Rattle.std.proofs.lemmas.List.{take-append-drop, length-drop}
use Rattle.session_input.specs.declared.received.InputStop.{InputStop}
use Rattle.session_input.specs.Holding.{Holds}
use Rattle.session_input.specs.Reading.{Receives, StopsAt}
use Rattle.session.specs.Conversation.{Kept}
use Rattle.session.specs.Building.{BuildsFew}
use Rattle.session.specs.Following.{Since, Halts}
use Rattle.session.specs.declared.talk.Talk.{Talk}
use Rattle.session.specs.Talking.{IsBuilding, held, replies_of, costs_of}
use Rattle.session.proofs.Optional.{at_some, at_none}
use Rattle.session.proofs.GoingTalks.{talk_ready, talk_more, talk_on, talk_halts, talk_long, talk_breaks}
use Rattle.session.proofs.BuiltSessions.{goes_building, stops_building, answers_building, halts_building}
use Rattle.session.proofs.following.take_next.Goals as goal

-- ---- the input isn't read on

pub returns-in-Err-TooLong-clause-halts : goal.returns-in-Err-TooLong-clause-halts
returns-in-Err-TooLong-clause-halts g c = λ start read x going.
    let stop = c.in-Err-TooLong in
    talk_long start c.args.talk.now read c.args.input.now x (g.W.Site.outside c.args.site.now) going c.args.part.now
    c.requires.small
    (λ before bytes holds. subst (λ (e : InputStop). StopsAt e before (bytes ++ c.args.part.now)) stop.field-0-is
    (stop.ensures.stopped before bytes holds))

pub returns-in-Err-NoMemory-clause-halts : goal.returns-in-Err-NoMemory-clause-halts
returns-in-Err-NoMemory-clause-halts g c = λ start read x going.
    talk_breaks start c.args.talk.now read c.args.input.now x (g.W.Site.outside c.args.site.now) going c.args.part.now

pub returns-in-Err-TooLong-clause-few : goal.returns-in-Err-TooLong-clause-few
returns-in-Err-TooLong-clause-few g c =
    stops_building c.args.talk.now c.args.input.now c.args.steps.now (g.W.Site.outside c.args.site.now)
    c.args.part.now

pub returns-in-Err-NoMemory-clause-few : goal.returns-in-Err-NoMemory-clause-few
returns-in-Err-NoMemory-clause-few g c =
    stops_building c.args.talk.now c.args.input.now c.args.steps.now (g.W.Site.outside c.args.site.now)
    c.args.part.now

-- ---- no message ended

pub returns-in-None-clause-goes : goal.returns-in-None-clause-goes
returns-in-None-clause-goes g c = λ start read x going.
    let taken = c.in-Ok.taken in
    talk_more start c.args.talk.now read c.args.input.now x (g.W.Site.outside c.args.site.now) going
    (take taken.used c.args.part.now) c.take.new.self
    (at_none taken.received ((before : ℕ) (bytes : List ℕ) → Holds before bytes c.args.input.now
    → Holds before (bytes ++ take taken.used c.args.part.now) c.take.new.self) c.in-None.is c.in-Ok.ensures.more)

pub returns-in-None-clause-builds : goal.returns-in-None-clause-builds
returns-in-None-clause-builds g c =
    let taken = c.in-Ok.taken in
    goes_building c.args.talk.now c.args.input.now c.args.steps.now (g.W.Site.outside c.args.site.now)
    (take taken.used c.args.part.now) c.take.new.self
    (at_none taken.received ((before : ℕ) (bytes : List ℕ) → Holds before bytes c.args.input.now
    → Holds before (bytes ++ take taken.used c.args.part.now) c.take.new.self) c.in-None.is c.in-Ok.ensures.more)

-- ---- a message ended

small_rest : (used : ℕ) (part : List ℕ) → length part ≤ 2 ^ 16 → length (drop used part) ≤ 2 ^ 16
small_rest used part small = omega (arith, small, length-drop used part)

pub answer-requires-clause-ready : goal.answer-requires-clause-ready
answer-requires-clause-ready g c =
    let goes = c.requires.goes in
    talk_ready goes.0 c.args.talk.now goes.1 c.args.input.now goes.2 (g.W.Site.outside c.args.site.now) goes.3

pub returns-in-Ok-answer-clause-goes : goal.returns-in-Ok-answer-clause-goes
returns-in-Ok-answer-clause-goes g c = λ start read x going.
    let taken = c.in-Ok.taken in
    let receives = at_some taken.received c.in-Some.received (λ r. (before : ℕ) (bytes : List ℕ)
    → Holds before bytes c.args.input.now
    → Receives before r (bytes ++ take taken.used c.args.part.now)
    × Holds (before + length (bytes ++ take taken.used c.args.part.now)) [] c.take.new.self)
    c.in-Some.is c.in-Ok.ensures.received in
    talk_on start c.args.talk.now read c.args.input.now x (g.W.Site.outside c.args.site.now) going
    (take taken.used c.args.part.now) c.take.new.self c.in-Some.received receives c.answer.new.self
    (g.W.Site.outside c.answer.new.site) tt c.in-Ok-answer.ensures.fixed c.in-Ok-answer.ensures.told

pub returns-clause-halts : goal.returns-clause-halts
returns-clause-halts g c = λ start read x going.
    let taken = c.in-Ok.taken in
    let part = c.args.part.now in
    let receives = at_some taken.received c.in-Some.received (λ r. (before : ℕ) (bytes : List ℕ)
    → Holds before bytes c.args.input.now
    → Receives before r (bytes ++ take taken.used part)
    × Holds (before + length (bytes ++ take taken.used part)) [] c.take.new.self)
    c.in-Some.is c.in-Ok.ensures.received in
    subst (λ (l : List ℕ). Since (held start) (λ opening w v. Halts (replies_of start) opening (read ++ l) false
    c.in-Err.stop w v) x (g.W.Site.outside c.answer.new.site)) (take-append-drop taken.used part)
    (talk_halts start c.args.talk.now read c.args.input.now x (g.W.Site.outside c.args.site.now) going
    (take taken.used part) c.take.new.self c.in-Some.received receives c.answer.new.self
    (g.W.Site.outside c.answer.new.site) c.in-Err.stop (drop taken.used part)
    (small_rest taken.used part c.requires.small) c.in-Err.ensures.told)

pub returns-in-Ok-answer-clause-builds : goal.returns-in-Ok-answer-clause-builds
returns-in-Ok-answer-clause-builds g c =
    let taken = c.in-Ok.taken in
    let receives = at_some taken.received c.in-Some.received (λ r. (before : ℕ) (bytes : List ℕ)
    → Holds before bytes c.args.input.now
    → Receives before r (bytes ++ take taken.used c.args.part.now)
    × Holds (before + length (bytes ++ take taken.used c.args.part.now)) [] c.take.new.self)
    c.in-Some.is c.in-Ok.ensures.received in
    answers_building c.args.talk.now c.args.input.now c.args.steps.now (g.W.Site.outside c.args.site.now)
    c.in-Some.received c.answer.new.self c.answer.new.steps (g.W.Site.outside c.answer.new.site)
    (take taken.used c.args.part.now) c.take.new.self receives tt c.in-Ok-answer.ensures.fixed
    c.in-Ok-answer.ensures.builds

pub returns-clause-few : goal.returns-clause-few
returns-clause-few g c =
    let talk = c.args.talk.now in
    let taken = c.in-Ok.taken in
    let part = c.args.part.now in
    let receives = at_some taken.received c.in-Some.received (λ r. (before : ℕ) (bytes : List ℕ)
    → Holds before bytes c.args.input.now
    → Receives before r (bytes ++ take taken.used part)
    × Holds (before + length (bytes ++ take taken.used part)) [] c.take.new.self)
    c.in-Some.is c.in-Ok.ensures.received in
    subst (λ (l : List ℕ). IfSome (g.W.Site.outside c.args.site.now) (λ w. (start : Talk g.row.A.Denot g.A.Answerer)
    (opening : Kept g.A.Answerer.Beside) (read : List ℕ) (first : ℕ)
    → IsBuilding start talk opening read c.args.input.now first c.args.steps.now w
    → BuildsFew (costs_of start) opening (read ++ l) first c.answer.new.steps)) (take-append-drop taken.used part)
    (halts_building talk c.args.input.now c.args.steps.now (g.W.Site.outside c.args.site.now) c.in-Some.received
    c.answer.new.self c.answer.new.steps (g.W.Site.outside c.answer.new.site) (take taken.used part) c.take.new.self
    receives c.in-Err.stop (drop taken.used part) c.in-Err.ensures.builds)
