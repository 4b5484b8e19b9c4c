use Rattle.std.proofs.Common.{◌+◌, List, take, pos, IsTrue, sym, subst, arith}
use Rattle.std.proofs.lemmas.List.{take_all, take_more}
use Rattle.road_base.specs.declared.ids.WayId.{WayId}
use Rattle.ordered_lists.specs.Orders.{rises}
use Rattle.road_model.specs.Orders.{way_cmp}
use Rattle.compiled_graph.specs.Building.{HasBlocksOf}
use Rattle.ordered_lists.proofs.RisingLists.{take_rises}
use Rattle.compiled_graph.proofs.Built.{part_file}
use Rattle.compiled_graph.proofs.blocks.write_blocks.Goals as goal

pub write_block-requires : goal.write_block-requires
write_block-requires g c = (take c.loop-way.way-index c.args.ways.now, c.loop-way.invariant.written)

pub loop-way-preserved : goal.loop-way-preserved
loop-way-preserved g c =
    let M = c.args.builder.now.world in
    let P = g.P.Profile.rules c.args.builder.now.profile in
    let ways = c.args.ways.now in
    let i = c.loop-way.way-index in
    let more = take_more ways i (record { 0 = pos 0 }) c.loop-way-test.true in
    let front = take_rises way_cmp (i + 1) ways c.requires.ascending in
    let up = subst (λ (l : List WayId). IsTrue (rises way_cmp l)) more front in
    record {
      written =
          subst (λ (l : List WayId). HasBlocksOf M P l c.write_block.new.writer) (sym more)
          (c.in_ok-write_block.ensures.written (take i ways) up c.loop-way.invariant.written);
      built = omega arith;
    }

pub returns-clause-part : goal.returns-clause-part
returns-clause-part g c =
    let M = c.args.builder.now.world in
    let P = g.P.Profile.rules c.args.builder.now.profile in
    let ways = c.args.ways.now in
    let whole = take_all c.loop-way.way-index ways (omega (arith, c.loop-way-test.false)) in
    let writer = c.loop-way.writer in
    let has = subst (λ (l : List WayId). HasBlocksOf M P l writer) whole c.loop-way.invariant.written in
    part_file M P ways writer c.finish.result.items has
    (λ blocks. c.finish.ensures.file 2 P.number blocks c.requires.known tt)
