use Rattle.std.proofs.Common.{◌≡◌, [], take}
use Rattle.restrictions.specs.Ends.{ends_of}
use Rattle.restrictions.proofs.end_steps.ends_of.Given as goal

-- the end steps of the ways so far
abbrev pub invariant-loop-at : goal.invariant-loop-at
invariant-loop-at g l = l.steps.items ≡ ends_of (g.M.World.objects l.world) l.side l.node (take l.at l.ways) []
