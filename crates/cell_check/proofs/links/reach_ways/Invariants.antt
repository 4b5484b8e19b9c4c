use Rattle.std.proofs.Common.{◌≡◌, take}
use Rattle.road_base.specs.declared.ids.Key.TheVariants.{Way as WayKey}
use Rattle.cell_check.specs.Searches.{Finds, FromStart, GivenFrom}
use Rattle.cell_check.proofs.links.reach_ways.Given as goal

-- the search came to those so far
abbrev pub invariant-loop-way : goal.invariant-loop-way
invariant-loop-way l =
    Finds l.fn.search l.search
    (GivenFrom (λ w. FromStart l.start (λ k. k ≡ WayKey w)) (take l.way-index l.ways))
