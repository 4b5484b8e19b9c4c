-- The last key is the one at the last place.
use Rattle.restrictions.proofs.LineEnds.{last_read}
use Rattle.restrictions.proofs.causes.last_of.Goals as goal

pub returns-in-len1-up : goal.returns-in-len1-up
returns-in-len1-up c = last_read c.args.keys.now _ c.in-len1-up.len_at_least
