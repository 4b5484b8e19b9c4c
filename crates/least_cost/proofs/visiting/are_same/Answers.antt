use Rattle.std.proofs.lemmas.Slice.Eq.{slice_eq-Decides}
use Rattle.least_cost.proofs.CostNames.{names_decide}
use Rattle.least_cost.proofs.visiting.are_same.Goals as goal

pub returns : goal.returns
returns c = slice_eq-Decides names_decide c.args.a.now c.args.b.now c.eq.result c.eq.ensures
