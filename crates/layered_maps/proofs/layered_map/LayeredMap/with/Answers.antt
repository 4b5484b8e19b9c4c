use Rattle.std.proofs.Common.{sym, ap, ◌∙◌, subst}
use Rattle.layered_maps.specs.Layers.{put_all, Rise}
use Rattle.layered_maps.specs.Maps.{AreKeyed, floor_pairs, over}
use Rattle.layered_maps.specs.Sinking.{IsSinking}
use Rattle.layered_maps.proofs.OverPairs.{keyed_all, over_all}
use Rattle.layered_maps.proofs.layered_map.LayeredMap.with.Goals as goal

pub invariant_of-result : goal.invariant_of-result
invariant_of-result g c =
    let R = g.K.Ord.cmp in
    let key = g.V.Keyed.key in
    let layers = c.self.inside.layers in
    let run = c.args.run in
    let is = c.in_ok-layers.ensures in (
      subst (Rise R) (sym c.in_ok-floor.ensures) c.self.invariant.0,
      subst (AreKeyed key R) (sym is)
          (keyed_all key R g.met.K.Ord.total c.requires.exact run layers c.requires.keyed c.self.invariant.1),
      subst (λ l. IsSinking key R c.in_ok-sinking.sinking l (floor_pairs c.in_ok-floor.floor))
          (sym c.in_ok-layers.ensures)
          (subst (IsSinking key R c.in_ok-sinking.sinking (put_all R run layers))
          (sym c.in_ok-floor.ensures) c.in_ok-sinking.ensures),
    )

pub returns : goal.returns
returns g c =
    let R = g.K.Ord.cmp in
    let layers = c.self.inside.layers in
    let run = c.args.run in
    (λ i. over R (c.in_ok-layers.ensures i) (c.in_ok-floor.ensures i))
    ∙ over_all R g.met.K.Ord.total c.requires.exact run layers (floor_pairs c.self.inside.floor) c.self.invariant.0
    ∙ ap (over R run) c.self.view_is
