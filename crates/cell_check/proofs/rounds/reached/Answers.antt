use Rattle.cell_check.proofs.SearchedWays.{searched}
use Rattle.cell_check.proofs.rounds.reached.Goals as goal

pub returns : goal.returns
returns g c = λ area are.
    searched (g.M.World.objects c.args.world.now) area c.args.starts.now c.in_ok-search.search c.rounds.new.search are
    c.in_ok-search.ensures c.in_ok-rounds.ensures
