use Rattle.touched_ways.proofs.TouchedAround.{around_touched}
use Rattle.touched_ways.proofs.laws.near_ways_are_touched.Goals as goal

pub returns : goal.returns
returns c M N w around = around_touched M N w around
