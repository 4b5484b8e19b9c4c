use Rattle.std.proofs.Common.{sym, subst}
use Rattle.layered_maps.specs.Layers.{values_of}
use Rattle.layered_maps.specs.PartLists.{AreFull}
use Rattle.layered_maps.proofs.JoinedLists.{full_last}
use Rattle.layered_maps.proofs.parting.parted.Goals as goal

pub returns-clause-full : goal.returns-clause-full
returns-clause-full g c =
    subst (AreFull c.args.size) (sym c.in_ok-close.ensures)
    (full_last c.args.size (values_of c.loop-item.parts.items) c.loop-item.last.items c.loop-item.invariant.1
    c.loop-item.invariant.2)
