use Rattle.std.proofs.Common.{◌≡◌}
use Rattle.road_base.specs.declared.ids.Key.TheVariants.{Way as WayKey}
use Rattle.cell_check.specs.Searches.{FromStart}
use Rattle.cell_check.proofs.FoundKeys.{finds_first, finds_next, finds_all, finds_given}
use Rattle.cell_check.proofs.links.reach_ways.Goals as goal

pub loop-way-init : goal.loop-way-init
loop-way-init c =
    finds_first (λ w. FromStart c.args.start (λ k. k ≡ WayKey w)) c.args.search.now c.args.ways.now

pub loop-way-preserved : goal.loop-way-preserved
loop-way-preserved c =
    finds_next (λ w. FromStart c.args.start (λ k. k ≡ WayKey w)) c.args.search.now c.loop-way.search
    c.reach.new.self c.args.ways.now c.loop-way.way-index _ c.loop-way-test.true c.loop-way.invariant
    c.in_ok-reach.ensures

pub returns : goal.returns
returns c =
    finds_given (λ w k. k ≡ WayKey w) c.args.start c.args.search.now c.loop-way.search c.args.ways.now
    (finds_all (λ w. FromStart c.args.start (λ k. k ≡ WayKey w)) c.args.search.now c.loop-way.search
    c.args.ways.now c.loop-way.way-index c.loop-way-test.false c.loop-way.invariant)
