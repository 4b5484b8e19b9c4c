use Rattle.std.proofs.Common.{◌≤◌, sym, subst}
use Rattle.layered_maps.specs.Layers.{values_of}
use Rattle.layered_maps.proofs.LayerPairs.{values_long}
use Rattle.layered_maps.proofs.WalkSteps.{eight_same}
use Rattle.layered_maps.proofs.changes.Changes.of.Goals as goal

pub returns : goal.returns
returns g c =
    eight_same g.K.Ord.cmp (values_of c.args.runs.now) _ _ _ _ _ _ _ _
    (subst (λ n. n ≤ 8) (sym (values_long c.args.runs.now)) c.requires)
    c.entries_of.ensures.pairs c.entries_of-2.ensures.pairs c.entries_of-3.ensures.pairs c.entries_of-4.ensures.pairs
    c.entries_of-5.ensures.pairs c.entries_of-6.ensures.pairs c.entries_of-7.ensures.pairs
    c.entries_of-8.ensures.pairs
