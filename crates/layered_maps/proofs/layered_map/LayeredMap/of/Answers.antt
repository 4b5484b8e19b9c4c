use Rattle.std.proofs.Common.{sym, ◌∙◌, subst}
use Rattle.layered_maps.specs.Layers.{Rise}
use Rattle.layered_maps.specs.Maps.{AreKeyed}
use Rattle.layered_maps.proofs.FoundPairs.{pairs_rise}
use Rattle.layered_maps.proofs.OverPairs.{none_keyed}
use Rattle.layered_maps.proofs.layered_map.LayeredMap.of.Goals as goal

pub invariant_of-result : goal.invariant_of-result
invariant_of-result g c =
    let R = g.K.Ord.cmp in
    let key = g.V.Keyed.key in (
      subst (Rise R) (sym (c.in_ok-floor-2.ensures.ok ∙ c.in_ok-floor.ensures))
          (pairs_rise key R g.met.K.Ord.total c.args.list.items c.requires),
      subst (AreKeyed key R) (sym c.new-2.ensures) (none_keyed key R),
      tt,
    )
