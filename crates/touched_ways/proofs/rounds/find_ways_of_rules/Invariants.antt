use Rattle.std.proofs.Common.{take}
use Rattle.road_base.specs.declared.ids.Key.TheVariants.{Relation as RelationKey}
use Rattle.touched_ways.specs.Searches.{Finds, GivenBy, IsWayLink}
use Rattle.touched_ways.proofs.rounds.find_ways_of_rules.Given as goal

-- what the numbers so far give was found
abbrev pub invariant-loop-rule : goal.invariant-loop-rule
invariant-loop-rule g l =
    Finds l.fn.found l.found
    (GivenBy (λ r. IsWayLink (g.M.World.objects l.world) (RelationKey r)) (take l.rule-index l.rules))
