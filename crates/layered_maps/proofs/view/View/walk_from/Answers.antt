use Rattle.std.proofs.Common.{option_copied, ap, ◌∙◌}
use Rattle.layered_maps.specs.Maps.{from_key, layer_pairs}
use Rattle.layered_maps.proofs.ViewPairs.{walked_from}
use Rattle.layered_maps.proofs.view.View.walk_from.Goals as goal

pub returns : goal.returns
returns g c =
    walked_from g.V.Keyed.key g.K.Ord.cmp g.met.K.Ord.total c.requires
    (layer_pairs (option_copied c.self.inside.layers)) c.self.inside.items c.self.invariant.1 c.self.invariant.0
    c.args.key c.changes_from.result c.values_from.result c.new.result c.changes_from.ensures
    c.values_from.ensures.values c.new.ensures
    ∙ ap (from_key g.K.Ord.cmp c.args.key) c.self.view_is
