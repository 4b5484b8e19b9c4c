use Rattle.std.proofs.lemmas.Result.{on_ok_weaker}
use Rattle.cell_check.proofs.OpenedKeys.{adds_if}
use Rattle.cell_check.proofs.closing.add_open.Goals as goal

pub returns : goal.returns
returns c = on_ok_weaker c.add_if.result
    (λ more. adds_if c.args.world.now c.args.area.now c.is_closed.result c.args.key c.args.starts.now.items
    c.add_if.new.list.items c.is_closed.ensures more) c.add_if.ensures
