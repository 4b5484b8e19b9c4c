-- Both steps of the pair are added where they can be driven.
use Rattle.std.proofs.Common.{◌∙◌}
use Rattle.road_base.specs.declared.ids.Dir.TheVariants.{Forward, Backward}
use Rattle.drive_judging.proofs.NodesLeft.{drives_by, pair_more}
use Rattle.drive_judging.proofs.dead_ends.add_pair.Goals as goal

pub returns : goal.returns
returns g c ways done noted =
    let M = g.M.World.objects c.args.network.now.world.now in
    let P = g.P.Profile.rules c.args.network.now.profile in
    let r = c.args.road in
    let i = c.args.index in
    let a = c.args.first in
    let b = c.args.second in
    pair_more M P ways done r.way i a b c.is_drivable-forward.result c.is_drivable-backward.result c.args.known.now
    c.add_step.new.known c.add_step-2.new.known c.requires.first c.requires.second
    (c.is_drivable-forward.ensures ∙ drives_by M P (record { way = r.way; index = i; dir = Forward }) a b
    c.requires.first c.requires.second r.forward c.requires.road.forward)
    (c.is_drivable-backward.ensures ∙ drives_by M P (record { way = r.way; index = i; dir = Backward }) a b
    c.requires.first c.requires.second r.backward c.requires.road.backward)
    c.in_ok-add_step.ensures c.in_ok-add_step-2.ensures noted
