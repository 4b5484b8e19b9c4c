use Rattle.std.proofs.Common.{◌≡◌}
use Rattle.road_base.specs.declared.ids.Key.TheVariants.{Relation as RelationKey}
use Rattle.cell_check.specs.Searches.{FromStart}
use Rattle.cell_check.proofs.FoundKeys.{finds_first, finds_next, finds_all, finds_given}
use Rattle.cell_check.proofs.links.reach_rules.Goals as goal

pub loop-rule-init : goal.loop-rule-init
loop-rule-init c =
    finds_first (λ r. FromStart c.args.start (λ k. k ≡ RelationKey r)) c.args.search.now c.args.rules.now

pub loop-rule-preserved : goal.loop-rule-preserved
loop-rule-preserved c =
    finds_next (λ r. FromStart c.args.start (λ k. k ≡ RelationKey r)) c.args.search.now c.loop-rule.search
    c.reach.new.self c.args.rules.now c.loop-rule.rule-index _ c.loop-rule-test.true c.loop-rule.invariant
    c.in_ok-reach.ensures

pub returns : goal.returns
returns c =
    finds_given (λ r k. k ≡ RelationKey r) c.args.start c.args.search.now c.loop-rule.search c.args.rules.now
    (finds_all (λ r. FromStart c.args.start (λ k. k ≡ RelationKey r)) c.args.search.now c.loop-rule.search
    c.args.rules.now c.loop-rule.rule-index c.loop-rule-test.false c.loop-rule.invariant)
