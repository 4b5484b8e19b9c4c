use Rattle.std.proofs.Common.{subst}
use Rattle.std.proofs.lemmas.Result.{IfOk-weaker}
use Rattle.layered_maps.specs.Layers.{Rise, values_of}
use Rattle.layered_maps.proofs.LayerPairs.{laid_rises}
use Rattle.layered_maps.proofs.layers.Layers.merged.Goals as goal

pub returns-clause-rising : goal.returns-clause-rising
returns-clause-rising g c =
    IfOk-weaker c.all_of.result _ _ (λ r is. subst (Rise g.K.Ord.cmp) c.self.view_is
    (laid_rises g.K.Ord.cmp g.met.K.Ord.total (values_of c.self.inside.runs.items))) c.all_of.ensures
