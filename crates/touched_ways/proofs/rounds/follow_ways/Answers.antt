use Rattle.road_base.specs.declared.ids.Key.TheVariants.{Way as WayKey}
use Rattle.road_model.specs.Links.{IsLink}
use Rattle.touched_ways.proofs.FoundKeys.{finds_first, finds_next, finds_all}
use Rattle.touched_ways.proofs.rounds.follow_ways.Goals as goal

pub loop-way-init : goal.loop-way-init
loop-way-init g c =
    finds_first (λ w. IsLink (g.M.World.objects c.args.world.now) (WayKey w)) c.args.found.now c.args.ways.now

pub loop-way-preserved : goal.loop-way-preserved
loop-way-preserved g c =
    finds_next (λ w. IsLink (g.M.World.objects c.args.world.now) (WayKey w)) c.args.found.now c.loop-way.found
    c.follow_way.new.found c.args.ways.now c.loop-way.way-index _ c.loop-way-test.true
    c.loop-way.invariant c.in_ok-follow_way.ensures

pub returns : goal.returns
returns g c =
    finds_all (λ w. IsLink (g.M.World.objects c.args.world.now) (WayKey w)) c.args.found.now c.loop-way.found
    c.args.ways.now c.loop-way.way-index c.loop-way-test.false c.loop-way.invariant
