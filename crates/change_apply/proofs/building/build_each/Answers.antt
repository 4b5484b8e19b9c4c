use Rattle.std.proofs.Common.{List, take, pos, sym, subst, ◌∙◌, arith}
use Rattle.std.proofs.lemmas.List.{take_all, take_more}
use Rattle.road_base.specs.declared.ids.WayId.{WayId}
use Rattle.change_apply.specs.Engines.{AreBlocksAmong}
use Rattle.change_apply.proofs.BuiltBlocks.{none_among, none_in_form, all_among}
use Rattle.change_apply.proofs.building.build_each.Goals as goal

pub loop-way-init : goal.loop-way-init
loop-way-init g c = record {
  among = λ one.
      none_among c.args.builder.now.world (g.P.Profile.rules c.args.builder.now.profile) c.reserve.new.self.map
      (c.in_ok-reserve.ensures.map ∙ c.new-blocks.ensures);
  forms = none_in_form c.reserve.new.self.map (c.in_ok-reserve.ensures.map ∙ c.new-blocks.ensures);
  built = omega arith;
}

pub loop-way-preserved : goal.loop-way-preserved
loop-way-preserved g c =
    let M = c.args.builder.now.world in
    let P = g.P.Profile.rules c.args.builder.now.profile in
    let ways = c.args.ways.now in
    let i = c.loop-way.way-index in
    let new = c.add_block.new.blocks.map in
    let front = take i ways in
    let more = take_more ways i (record { 0 = pos 0 }) c.loop-way-test.true in
    record {
      among = λ one.
          subst (λ (l : List WayId). AreBlocksAmong M P l new) (sym more)
          (c.in_ok-add_block.ensures.added front one (c.loop-way.invariant.among one));
      forms = c.in_ok-add_block.ensures.forms c.loop-way.invariant.forms;
      built = omega arith;
    }

pub returns-clause-blocks : goal.returns-clause-blocks
returns-clause-blocks g c = λ one.
    let M = c.args.builder.now.world in
    let P = g.P.Profile.rules c.args.builder.now.profile in
    let ways = c.args.ways.now in
    let whole = take_all c.loop-way.way-index ways (omega (arith, c.loop-way-test.false)) in
    record {
      blocks =
          all_among M P ways c.loop-way.blocks.map c.requires
          (subst (λ (l : List WayId). AreBlocksAmong M P l c.loop-way.blocks.map) whole
          (c.loop-way.invariant.among one));
      forms = c.loop-way.invariant.forms;
    }
