use Rattle.std.proofs.Common.{◌≡◌, ℕ, List, Some, subst}
use Rattle.opl_lexer.specs.declared.mode.Mode.TheVariants.{Change as ChangeMode}
use Rattle.opl_lexer.specs.Reading.{input_fault}
use Rattle.opl_objects.specs.StreamLines.{fault_at}
use Rattle.session_input.specs.declared.received.Change.{Change}
use Rattle.session_input.specs.Messages.{Frame}
use Rattle.session_input.specs.Reading.{IsChange}
use Rattle.session.specs.Conversation.{Kept}
use Rattle.session.specs.BuildingOn.{CostsNothing}
use Rattle.session.specs.Talking.{held, costs_of}
use Rattle.session.proofs.BuiltAnswers.{frame_none}
use Rattle.session.proofs.talk.Talk.answer_frame.Goals as goal

pub returns-then-is_err-clause-builds : goal.returns-then-is_err-clause-builds
returns-then-is_err-clause-builds g c =
    let self = c.args.self.now in
    frame_none (λ w v. (from : Kept g.A.Answerer.Beside) (body : List ℕ) → held self from w
    → CostsNothing (costs_of self) from (Frame c.args.number.0 body) (held self) v)
    (λ body. IsChange body c.args.change.now) (costs_of self)
    c.args.number (held self) (held self) c.refuse_number.result c.args.steps.now (g.W.Site.outside c.args.site.now)
    (g.W.Site.outside c.refuse_number.new.site) c.refuse_number.ensures.builds
    (λ w v none from body given k. none from body k)

pub returns-in-Faulty-clause-builds : goal.returns-in-Faulty-clause-builds
returns-in-Faulty-clause-builds g c =
    let self = c.args.self.now in
    frame_none (λ w v. (from : Kept g.A.Answerer.Beside) (body : List ℕ)
    → input_fault ChangeMode body ≡ Some (fault_at c.in-Faulty.fault) → held self from w
    → CostsNothing (costs_of self) from (Frame c.args.number.0 body) (held self) v)
    (λ body. IsChange body c.args.change.now) (costs_of self)
    c.args.number (held self) (held self) c.refuse_fault.result c.args.steps.now (g.W.Site.outside c.args.site.now)
    (g.W.Site.outside c.refuse_fault.new.site) c.refuse_fault.ensures.builds
    (λ w v none from body given k. none from body (subst (λ (d : Change). IsChange body d) c.in-Faulty.is given) k)
