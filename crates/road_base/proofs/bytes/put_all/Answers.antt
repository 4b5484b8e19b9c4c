use Rattle.std.proofs.Common.{rules}
use Rattle.road_base.specs.Bytes.{Keeps}
use Rattle.road_base.proofs.Appends.{all-take, keeps_more, one_more}
use Rattle.road_base.proofs.bytes.put_all.Goals as goal

pub returns-in-Err-clause-err : goal.returns-in-Err-clause-err
returns-in-Err-clause-err g c =
    let kept : Keeps c.args.out.now.items c.put.new.out.items = keeps_more _ _ _ _ c.loop-item.invariant.spelled
    c.in-Err.ensures.err in
    search rules

pub loop-item-preserved : goal.loop-item-preserved
loop-item-preserved g c = record {
  spelled = one_more g.F.Format.spelling _ _ _ _ _ _ c.loop-item-test.true c.item-item.is c.loop-item.invariant.spelled
      c.in_default.ensures.ok;
  fit = all-take g.F.Format.fits _ _ _ c.loop-item-test.true c.item-item.is c.loop-item.invariant.fit
      c.in_default.ensures.fit;
}
