use Rattle.cell_check.specs.Searches.{AreRounds}
use Rattle.cell_check.proofs.rounds.rounds.Given as goal

-- as many rounds were made as this one's number says
abbrev pub invariant-loop-round : goal.invariant-loop-round
invariant-loop-round g l = AreRounds (g.M.World.objects l.world) l._round l.fn.search l.search
