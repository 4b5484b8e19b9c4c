use Rattle.std.proofs.Common.{List, take, slice_index_or, pos, sym, subst, ◌∙◌, arith}
use Rattle.std.proofs.lemmas.List.{take_all, take_more}
use Rattle.road_base.specs.declared.ids.WayId.{WayId}
use Rattle.change_apply.specs.Rebuilding.{AreRebuilt, over}
use Rattle.change_apply.proofs.FreshBlocks.{over_empty}
use Rattle.change_apply.proofs.RebuiltBlocks.{none_rebuilt, more_rebuilt}
use Rattle.change_apply.proofs.building.rebuild_each.Goals as goal

pub loop-way-init : goal.loop-way-init
loop-way-init g c = record {
  rebuilt = λ before.
      none_rebuilt c.name_order.ensures.ways c.name_order.ensures.way_ties (g.M.World.objects c.args.builder.now.world)
      (g.P.Profile.rules c.args.builder.now.profile) before (over c.reserve.new.self.map before)
      (over_empty c.reserve.new.self.map before (c.in_ok-reserve.ensures.map ∙ c.new-blocks.ensures));
  built = omega arith;
}

pub loop-way-preserved : goal.loop-way-preserved
loop-way-preserved g c =
    let M = g.M.World.objects c.args.builder.now.world in
    let P = g.P.Profile.rules c.args.builder.now.profile in
    let ways = c.args.ways.now in
    let i = c.loop-way.way-index in
    let front = take i ways in
    let w = slice_index_or ways i (record { 0 = pos 0 }) in
    let more = take_more ways i (record { 0 = pos 0 }) c.loop-way-test.true in
    record {
      rebuilt = λ before.
          let old = over c.loop-way.blocks.map before in
          let new = over c.rebuild_one.new.blocks.map before in
          subst (λ (l : List WayId). AreRebuilt M P l before new) (sym more)
          (more_rebuilt c.name_order.ensures.ways c.name_order.ensures.way_ties M P front w before old new
          (c.loop-way.invariant.rebuilt before) (c.in_ok-rebuild_one.ensures.rebuilt before));
      built = omega arith;
    }

pub returns-clause-rebuilt : goal.returns-clause-rebuilt
returns-clause-rebuilt g c = λ before.
    let ways = c.args.ways.now in
    let whole = take_all c.loop-way.way-index ways (omega (arith, c.loop-way-test.false)) in
    let M = g.M.World.objects c.args.builder.now.world in
    let P = g.P.Profile.rules c.args.builder.now.profile in
    subst (λ (l : List WayId). AreRebuilt M P l before (over c.loop-way.blocks.map before)) whole
    (c.loop-way.invariant.rebuilt before)
