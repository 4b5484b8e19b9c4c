use Rattle.std.proofs.Common.{Option, IfOk, IfSome, sym, subst, ◌∙◌}
use Rattle.session_answers.specs.Said.{said}
use Rattle.session_replies.specs.declared.further_messages.FurtherMessage.{FurtherMessage}
use Rattle.session_replies.specs.FurtherMessages.{HasSteps}
use Rattle.session_replies.specs.Replies.{IsFurtherReply}
use Rattle.session_replies.proofs.queries.unmessaged_reply.Goals as goal

pub further_reply-requires-clause-drives : goal.further_reply-requires-clause-drives
further_reply-requires-clause-drives g c =
    subst (λ (o : Option FurtherMessage). IfSome o HasSteps) c.in-Some.is c.in_ok-found.ensures.drives

pub returns-in-Some : goal.returns-in-Some
returns-in-Some g c =
    let M = c.args.engine.now.world in
    let P = g.P.Profile.rules c.args.engine.now.profile in
    subst (λ (o : Option FurtherMessage). IfOk c.further_reply.result (λ r. IsFurtherReply M P o (said r)))
    (sym c.in-Some.is ∙ c.in_ok-found.ensures.asks) c.further_reply.ensures

pub returns-in-None : goal.returns-in-None
returns-in-None g c =
    let M = c.args.engine.now.world in
    let P = g.P.Profile.rules c.args.engine.now.profile in
    subst (λ (o : Option FurtherMessage). IfOk c.unknown_reply.result (λ r. IsFurtherReply M P o (said r)))
    (sym c.in-None.is ∙ c.in_ok-found.ensures.asks) c.unknown_reply.ensures
