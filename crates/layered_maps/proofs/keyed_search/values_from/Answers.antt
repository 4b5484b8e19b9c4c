use Rattle.std.proofs.Common.{drop, map, sym, ap, ◌∙◌, subst}
use Rattle.layered_maps.specs.Layers.{Rise}
use Rattle.layered_maps.specs.Maps.{keyed}
use Rattle.layered_maps.proofs.FoundPairs.{pairs_rise, keys_rise}
use Rattle.layered_maps.proofs.RunsFrom.{pairs_parted, behind_point, from_rises}
use Rattle.layered_maps.proofs.keyed_search.values_from.Goals as goal

pub count_below-requires : goal.count_below-requires
count_below-requires g c =
    let key = g.V.Keyed.key in
    pairs_parted (keyed key) g.K.Ord.cmp g.met.K.Ord.total c.args.key c.args.list.now
    (pairs_rise key g.K.Ord.cmp g.met.K.Ord.total c.args.list.now c.requires)

pub returns-clause-values : goal.returns-clause-values
returns-clause-values g c =
    let key = g.V.Keyed.key in
    let from = c.count_below.result in
    ap (map (keyed key)) (c.of.ensures ∙ ap (drop from) c.again.ensures)
    ∙ behind_point (keyed key) g.K.Ord.cmp g.met.K.Ord.total c.args.key c.args.list.now from
    c.count_below.ensures.point

pub returns-clause-ascending : goal.returns-clause-ascending
returns-clause-ascending g c =
    let key = g.V.Keyed.key in
    let R = g.K.Ord.cmp in
    let total = g.met.K.Ord.total in
    keys_rise key R total _ (subst (Rise R) (sym (returns-clause-values g c))
    (from_rises R total c.args.key (map (keyed key) c.args.list.now)
    (pairs_rise key R total c.args.list.now c.requires)))
