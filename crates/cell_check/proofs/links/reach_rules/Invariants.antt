use Rattle.std.proofs.Common.{◌≡◌, take}
use Rattle.road_base.specs.declared.ids.Key.TheVariants.{Relation as RelationKey}
use Rattle.cell_check.specs.Searches.{Finds, FromStart, GivenFrom}
use Rattle.cell_check.proofs.links.reach_rules.Given as goal

-- the search came to those so far
abbrev pub invariant-loop-rule : goal.invariant-loop-rule
invariant-loop-rule l =
    Finds l.fn.search l.search
    (GivenFrom (λ r. FromStart l.start (λ k. k ≡ RelationKey r)) (take l.rule-index l.rules))
