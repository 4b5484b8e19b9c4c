use Rattle.std.proofs.Common.{sym, subst, arith}
use Rattle.layered_maps.specs.Layers.{values_of}
use Rattle.layered_maps.specs.PartLists.{AreWhole}
use Rattle.layered_maps.proofs.JoinedLists.{on_ok, whole_more}
use Rattle.layered_maps.proofs.parting.with_room.Goals as goal

pub returns-clause-whole : goal.returns-clause-whole
returns-clause-whole g c = λ h.
    on_ok c.with_capacity.result (subst (AreWhole c.args.size) (sym c.in_ok-close.ensures)
    (whole_more c.args.size (values_of c.args.parts.now.items) c.args.last.items h
    (omega (arith, c.requires.within, c.if-len-size.false, c.len.ensures))))
