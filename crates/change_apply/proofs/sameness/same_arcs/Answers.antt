use Rattle.std.proofs.lemmas.Slice.Eq.{slice_eq-Decides}
use Rattle.change_apply.proofs.EqualBlocks.{arcs_decide}
use Rattle.change_apply.proofs.sameness.same_arcs.Goals as goal

pub returns : goal.returns
returns c = slice_eq-Decides arcs_decide c.args.a.now c.args.b.now c.eq.result c.eq.ensures
