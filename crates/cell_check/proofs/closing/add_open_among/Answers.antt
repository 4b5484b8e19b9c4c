use Rattle.std.proofs.Common.{List, subst}
use Rattle.road_base.specs.declared.ids.Key.{Key}
use Rattle.cell_check.specs.Closing.{AddsOpen}
use Rattle.cell_check.proofs.OpenedKeys.{adds_none, adds_next, adds_all, same_keys}
use Rattle.cell_check.proofs.closing.add_open_among.Goals as goal

pub loop-key-init : goal.loop-key-init
loop-key-init c = adds_none c.args.world.now c.args.area.now c.args.starts.now.items

pub loop-key-preserved : goal.loop-key-preserved
loop-key-preserved c =
    adds_next c.args.world.now c.args.area.now (λ k. k) c.args.starts.now.items c.loop-key.starts.items
    c.add_open.new.starts.items c.args.keys.now c.loop-key.key-index _ c.loop-key-test.true c.loop-key.invariant
    c.in_ok-add_open.ensures

pub returns : goal.returns
returns c =
    subst (λ (l : List Key). AddsOpen c.args.world.now c.args.area.now l c.args.starts.now.items
    c.loop-key.starts.items) (same_keys c.args.keys.now)
    (adds_all c.args.world.now c.args.area.now (λ k. k) c.args.starts.now.items c.loop-key.starts.items c.args.keys.now
    c.loop-key.key-index c.loop-key-test.false c.loop-key.invariant)
