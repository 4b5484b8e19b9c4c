-- What is said of the reply to a message is said of that to what the message is.
use Rattle.std.proofs.Common.{◌≡◌, ℕ, Option, Result, Ok, Err, IfOk, sym, subst}
use Rattle.road_base.specs.Objects.{Objects}
use Rattle.road_model.specs.Rules.{Rules}
use Rattle.drive_queries.specs.declared.messages.Asked.{Asked}
use Rattle.session_answers.specs.declared.reply.Reply.{Reply}
use Rattle.session_answers.specs.Said.{said}
use Rattle.session_replies.specs.declared.further_messages.FurtherMessage.{FurtherMessage}
use Rattle.session_replies.specs.Replies.{IsReply}

pub reply_as : {E : Type 0} (M : Objects) (P : Rules) (kept : ℕ) (asked same : Asked)
    (more : Option FurtherMessage) (r : Result Reply E) → asked ≡ same
    → IfOk r (λ x. IsReply M P kept same more (said x)) → IfOk r (λ x. IsReply M P kept asked more (said x))
reply_as M P kept asked same more (Ok x) is h = subst (λ a. IsReply M P kept a more (said x)) (sym is) h
reply_as M P kept asked same more (Err e) is h = h
