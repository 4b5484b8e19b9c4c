use Rattle.std.proofs.lemmas.Slice.Eq.{slice_eq-Decides}
use Rattle.change_apply.proofs.EqualBlocks.{names_decide}
use Rattle.change_apply.proofs.sameness.same_names.Goals as goal

pub returns : goal.returns
returns c = slice_eq-Decides names_decide c.args.a.now c.args.b.now c.eq.result c.eq.ensures
