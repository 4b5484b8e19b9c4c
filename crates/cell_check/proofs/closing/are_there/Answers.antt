use Rattle.std.proofs.Common.{refl, subst}
use Rattle.road_base.specs.declared.objects.Member.{Member}
use Rattle.map_cells.specs.Cells.{IsThere}
use Rattle.cell_check.proofs.ClosedKeys.{there_more, there_all}
use Rattle.cell_check.proofs.closing.are_there.Goals as goal

pub loop-member-preserved : goal.loop-member-preserved
loop-member-preserved c =
    there_more c.args.world.now c.args.members.now c.loop-member.member-index _ c.loop-member-test.true
    c.loop-member.invariant
    (subst (λ (m : Member). IsThere c.args.world.now m.item) c.member-item.is
    (c.is_there.ensures.0 c.if-not-is_there.false))

pub returns : goal.returns
returns c = (
  λ t. there_all c.args.world.now c.args.members.now c.loop-member.member-index c.loop-member-test.false
      c.loop-member.invariant,
  λ all. refl,
)
