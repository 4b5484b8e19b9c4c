use Rattle.std.proofs.Common.{map, subst}
use Rattle.layered_maps.specs.Layers.{Rise}
use Rattle.layered_maps.specs.Walks.{run_pairs}
use Rattle.layered_maps.proofs.LayerPairs.{laid_rises}
use Rattle.layered_maps.proofs.changes.Changes.key.Goals as goal

pub returns-clause-rising : goal.returns-clause-rising
returns-clause-rising g c =
    subst (Rise g.K.Ord.cmp) c.self.view_is
    (laid_rises g.K.Ord.cmp g.met.K.Ord.total (map run_pairs c.self.inside.runs))
