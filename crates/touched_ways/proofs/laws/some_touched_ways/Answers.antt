use Rattle.touched_ways.proofs.FiniteTouched.{touched_ways}
use Rattle.touched_ways.proofs.laws.some_touched_ways.Goals as goal

pub returns : goal.returns
returns c M N = touched_ways M N
