-- The end is read from the last two places.
use Rattle.way_pieces.proofs.LastPlaces.{none_read, some_read}
use Rattle.way_pieces.proofs.listed.stop_along.Goals as goal

pub returns-in_default : goal.returns-in_default
returns-in_default c = none_read c.args.span c.args.places.now c.in_default.len_below

pub returns : goal.returns
returns c = some_read c.args.span c.args.places.now c.from-item.result c.to-item.result c.in-len2-up.len_at_least
    c.from-item.is c.to-item.is
