use Rattle.std.proofs.Common.{map, ap, ◌∙◌}
use Rattle.layered_maps.specs.Layers.{pair}
use Rattle.layered_maps.proofs.RunsFrom.{pairs_parted, behind_point, all_behind}
use Rattle.layered_maps.proofs.changes.entries_from.Goals as goal

pub count_below-from-requires : goal.count_below-from-requires
count_below-from-requires g c =
    pairs_parted pair g.K.Ord.cmp g.met.K.Ord.total c.args.key c.args.entries.now c.requires

pub returns : goal.returns
returns g c =
    let from = c.count_below-from.result in
    ap (map pair) (all_behind from c.args.entries.now)
    ∙ behind_point pair g.K.Ord.cmp g.met.K.Ord.total c.args.key c.args.entries.now from
    c.count_below-from.ensures.point
