use Rattle.std.proofs.Common.{sym, subst}
use Rattle.std.specs.Str.{IsUtf8}
use Rattle.std.proofs.lemmas.Bool.{false≢true}
use Rattle.session_input.proofs.TextBytes.{end_is_utf8}
use Rattle.session_input.proofs.lines.is_frame_end.Goals as goal

pub returns-in-Err : goal.returns-in-Err
returns-in-Err c = (
  λ is. absurd (false≢true is),
  λ ends. absurd (c.in-Err.ensures.cases.0 (subst IsUtf8 (sym c.without_return.ensures) (end_is_utf8 _ ends))),
)
