use Rattle.std.proofs.Common.{option_copied, map, sym, subst, ap, ◌∙◌}
use Rattle.layered_maps.specs.Layers.{Rise}
use Rattle.layered_maps.specs.Maps.{keyed, layer_pairs, over}
use Rattle.layered_maps.proofs.FoundPairs.{keys_rise, pairs_rise}
use Rattle.layered_maps.proofs.OverPairs.{over_rises}
use Rattle.layered_maps.proofs.ViewPairs.{walked}
use Rattle.layered_maps.proofs.view.View.walk.Goals as goal

pub returns : goal.returns
returns g c =
    let R = g.K.Ord.cmp in
    let key = g.V.Keyed.key in
    let layers = layer_pairs (option_copied c.self.inside.layers) in
    let values = c.self.inside.items in
    let is = walked key R g.met.K.Ord.total c.requires layers values c.self.invariant.1 c.self.invariant.0
    c.changes_of.result c.new.result c.changes_of.ensures
    (c.new.ensures ∙ ap (λ l. map (λ p. p.1) (over R c.changes_of.result (map (keyed key) l)))
    c.all_values.ensures.values) in
    record {
      pairs = is ∙ c.self.view_is;
      rising = keys_rise key R g.met.K.Ord.total c.new.result
          (subst (Rise R) (sym is)
          (over_rises R g.met.K.Ord.total layers (map (keyed key) values)
          (pairs_rise key R g.met.K.Ord.total values c.self.invariant.0)));
    }
