use Rattle.std.proofs.lemmas.Slice.Eq.{slice_eq-Decides}
use Rattle.change_apply.proofs.EqualBlocks.{places_decide}
use Rattle.change_apply.proofs.sameness.same_places.Goals as goal

pub returns : goal.returns
returns c = slice_eq-Decides places_decide c.args.a.now c.args.b.now c.eq.result c.eq.ensures
