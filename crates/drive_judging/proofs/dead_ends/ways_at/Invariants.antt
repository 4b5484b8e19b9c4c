use Rattle.std.proofs.Common.{take}
use Rattle.drive_judging.specs.DeadEnds.{HasWaysAt}
use Rattle.drive_judging.proofs.dead_ends.ways_at.Given as goal

-- the ways at the nodes so far are there
abbrev pub invariant-loop-node : goal.invariant-loop-node
invariant-loop-node g l = HasWaysAt (take l.node-index l.nodes) l.ways.items (g.M.World.objects l.world)
