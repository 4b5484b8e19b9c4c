use Rattle.road_base.specs.declared.ids.Key.TheVariants.{Relation as RelationKey}
use Rattle.road_model.specs.Links.{IsLink}
use Rattle.touched_ways.proofs.FoundKeys.{finds_first, finds_next, finds_all}
use Rattle.touched_ways.proofs.rounds.follow_rules.Goals as goal

pub loop-rule-init : goal.loop-rule-init
loop-rule-init g c =
    finds_first (λ r. IsLink (g.M.World.objects c.args.world.now) (RelationKey r)) c.args.found.now c.args.rules.now

pub loop-rule-preserved : goal.loop-rule-preserved
loop-rule-preserved g c =
    finds_next (λ r. IsLink (g.M.World.objects c.args.world.now) (RelationKey r)) c.args.found.now c.loop-rule.found
    c.follow_rule.new.found c.args.rules.now c.loop-rule.rule-index _ c.loop-rule-test.true
    c.loop-rule.invariant c.in_ok-follow_rule.ensures

pub returns : goal.returns
returns g c =
    finds_all (λ r. IsLink (g.M.World.objects c.args.world.now) (RelationKey r)) c.args.found.now c.loop-rule.found
    c.args.rules.now c.loop-rule.rule-index c.loop-rule-test.false c.loop-rule.invariant
