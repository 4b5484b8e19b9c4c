use Rattle.std.proofs.Common.{take}
use Rattle.road_base.specs.declared.ids.Key.TheVariants.{Way as WayKey}
use Rattle.road_model.specs.Links.{IsLink}
use Rattle.touched_ways.specs.Searches.{Finds, GivenBy}
use Rattle.touched_ways.proofs.rounds.follow_ways.Given as goal

-- what the numbers so far give was found
abbrev pub invariant-loop-way : goal.invariant-loop-way
invariant-loop-way g l =
    Finds l.fn.found l.found
    (GivenBy (λ w. IsLink (g.M.World.objects l.world) (WayKey w)) (take l.way-index l.ways))
