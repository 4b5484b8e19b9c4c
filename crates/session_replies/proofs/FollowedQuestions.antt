-- What is said of the reply to a question is said of that to what the question is.
use Rattle.std.proofs.Common.{◌≡◌, ℕ, Result, Ok, Err, IfOk, sym, subst}
use Rattle.road_base.specs.Objects.{Objects}
use Rattle.road_model.specs.Rules.{Rules}
use Rattle.road_model.specs.declared.follower.Question.{Question}
use Rattle.session_answers.specs.declared.reply.Reply.{Reply}
use Rattle.session_answers.specs.Said.{said}
use Rattle.session_replies.specs.Replies.{answers_to}

pub answered_as : {E : Type 0} (P : Rules) (M : Objects) (kept : ℕ) (question same : Question) (r : Result Reply E)
    → question ≡ same
    → IfOk r (λ x. answers_to P M kept same (said x)) → IfOk r (λ x. answers_to P M kept question (said x))
answered_as P M kept question same (Ok x) is h = subst (λ q. answers_to P M kept q (said x)) (sym is) h
answered_as P M kept question same (Err e) is h = h
