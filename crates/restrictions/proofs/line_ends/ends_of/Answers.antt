-- The last node of a line is the last reference.
use Rattle.std.proofs.Common.{◌-◌, ◌<◌, length, sym, ◌∙◌, arith}
use Rattle.std.proofs.lemmas.Option.{slice_get-get_or}
use Rattle.restrictions.proofs.LineEnds.{line_ends_last}
use Rattle.restrictions.proofs.line_ends.ends_of.Goals as goal

pub returns-in-len1-up-clause-last : goal.returns-in-len1-up-clause-last
returns-in-len1-up-clause-last c =
    let refs = c.args.refs.now in
    let inside : length refs - 1 < length refs = omega arith in
    sym (slice_get-get_or refs (length refs - 1) _ inside) ∙ sym (line_ends_last refs)
