use Rattle.session_input.proofs.LineTexts.{first_line_here}
use Rattle.session_input.proofs.lines.first_line.Goals as goal

pub returns-clause-some : goal.returns-clause-some
returns-clause-some c =
    rw c.split_at.ensures.front (first_line_here c.args.bytes.now c.in_ok-at.at c.in_ok-at.ensures)
