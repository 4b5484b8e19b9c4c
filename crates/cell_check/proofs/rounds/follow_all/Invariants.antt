use Rattle.std.proofs.Common.{take}
use Rattle.cell_check.specs.Searches.{Finds, IsLinkedTo}
use Rattle.cell_check.proofs.rounds.follow_all.Given as goal

-- the search came to what is linked to those so far
abbrev pub invariant-loop-from : goal.invariant-loop-from
invariant-loop-from g l =
    Finds l.fn.search l.search (IsLinkedTo (g.M.World.objects l.world) (take l.from-index l.frontier))
