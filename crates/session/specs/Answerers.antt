-- That there is something that answers.
use Rattle.std.specs.Prelude.{⊤}
use Rattle.session_answers.specs.Replies.{Replies}

-- there is what lines are answered with
pub record AreReplies {B : Type 0} (R : Replies B) : Type 0 where
  pub some : ⊤
