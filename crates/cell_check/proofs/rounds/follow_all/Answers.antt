use Rattle.road_model.specs.Links.{IsLink}
use Rattle.cell_check.specs.Searches.{FromStart}
use Rattle.cell_check.proofs.FoundKeys.{finds_first, finds_next, finds_all}
use Rattle.cell_check.proofs.rounds.follow_all.Goals as goal

pub loop-from-init : goal.loop-from-init
loop-from-init g c =
    finds_first (λ x. FromStart x.start (IsLink (g.M.World.objects c.args.world.now) x.key)) c.args.search.now
    c.args.frontier.now

pub loop-from-preserved : goal.loop-from-preserved
loop-from-preserved g c =
    finds_next (λ x. FromStart x.start (IsLink (g.M.World.objects c.args.world.now) x.key)) c.args.search.now
    c.loop-from.search c.follow.new.search c.args.frontier.now c.loop-from.from-index _ c.loop-from-test.true
    c.loop-from.invariant c.in_ok-follow.ensures

pub returns : goal.returns
returns g c =
    finds_all (λ x. FromStart x.start (IsLink (g.M.World.objects c.args.world.now) x.key)) c.args.search.now
    c.loop-from.search c.args.frontier.now c.loop-from.from-index c.loop-from-test.false c.loop-from.invariant
