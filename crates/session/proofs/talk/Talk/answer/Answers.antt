use Rattle.session_input.specs.Texts.{text_of}
use Rattle.session_input.specs.Messages.{Line}
use Rattle.session.specs.Conversation.{Kept}
use Rattle.session.specs.Answering.{Answers}
use Rattle.session.specs.BuildingOn.{AnswerBuilds}
use Rattle.session.specs.Talking.{held, replies_of, costs_of}
use Rattle.session.proofs.ToldAnswers.{told_line, told_frame}
use Rattle.session.proofs.BuiltAnswers.{line_none}
use Rattle.session.proofs.talk.Talk.answer.Goals as goal

pub returns-in-Line-clause-told : goal.returns-in-Line-clause-told
returns-in-Line-clause-told g c =
    let self = c.args.self.now in
    let after = c.answer_line.new.self in
    told_line (held self)
    (λ from message w v. Answers (replies_of self) from message (held after) c.answer_line.result w v)
    (g.W.Site.outside c.args.site.now) (g.W.Site.outside c.answer_line.new.site) c.args.received.now c.in-Line.line
    c.in-Line.is
    c.answer_line.ensures.told

pub returns-in-Frame-clause-told : goal.returns-in-Frame-clause-told
returns-in-Frame-clause-told g c =
    let self = c.args.self.now in
    let after = c.answer_frame.new.self in
    told_frame (held self)
    (λ from message w v. Answers (replies_of self) from message (held after) c.answer_frame.result w v)
    (g.W.Site.outside c.args.site.now) (g.W.Site.outside c.answer_frame.new.site) c.args.received.now
    c.in-Frame.number c.in-Frame.change c.in-Frame.is c.answer_frame.ensures.told

pub returns-in-Line-clause-builds : goal.returns-in-Line-clause-builds
returns-in-Line-clause-builds g c =
    let self = c.args.self.now in
    let after = c.answer_line.new.self in
    let was = g.W.Site.outside c.args.site.now in
    let now = g.W.Site.outside c.answer_line.new.site in
    let steps = c.args.steps.now in
    told_line (held self)
    (λ from message w v. AnswerBuilds (costs_of self) from message (held after) c.answer_line.result steps steps v)
    was now c.args.received.now c.in-Line.line c.in-Line.is
    (line_none (λ w v. (from : Kept g.A.Answerer.Beside) → held self from w
    → Answers (replies_of self) from (Line (text_of c.in-Line.line)) (held after) c.answer_line.result w v)
    (costs_of self) (text_of c.in-Line.line) (held self) (held after) c.answer_line.result steps was now
    c.answer_line.ensures.told c.answer_line.ensures.builds)

pub returns-in-Frame-clause-builds : goal.returns-in-Frame-clause-builds
returns-in-Frame-clause-builds g c =
    let self = c.args.self.now in
    let after = c.answer_frame.new.self in
    told_frame (held self)
    (λ from message w v. AnswerBuilds (costs_of self) from message (held after) c.answer_frame.result c.args.steps.now
    c.answer_frame.new.steps v)
    (g.W.Site.outside c.args.site.now) (g.W.Site.outside c.answer_frame.new.site) c.args.received.now
    c.in-Frame.number c.in-Frame.change c.in-Frame.is c.answer_frame.ensures.builds
