use Rattle.std.proofs.Common.{◌∙◌, ◌++◌, ℕ, List, Some, ap}
use Rattle.session_replies.proofs.pin_replies.ask_reply.Goals as goal

pub returns-in-Ok : goal.returns-in-Ok
returns-in-Ok g c = λ h pins stands.
    let reply = c.in-Ok.ensures.reply in (
      Some reply.0,
      reply.2 h pins stands,
      c.line_alone.ensures ∙ reply.1 ∙ ap (λ (l : List ℕ). l ++ reply.0) c.new-line.ensures.items,
    )
