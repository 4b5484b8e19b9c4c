use Rattle.std.proofs.Common.{map, refl, sym, ap, ◌∙◌, subst}
use Rattle.layered_maps.specs.Layers.{pair, put_all, Rise}
use Rattle.layered_maps.specs.Maps.{stays, sunk}
use Rattle.layered_maps.proofs.FoundPairs.{some_rise}
use Rattle.layered_maps.proofs.OverPairs.{sunken_as}
use Rattle.layered_maps.proofs.UnseenPairs.{sunk_unseen}
use Rattle.layered_maps.proofs.sinking.split_over.Goals as goal

pub of-requires : goal.of-requires
of-requires g c =
    let R = g.K.Ord.cmp in
    let es = map pair c.entries.result.now in
    subst (Rise R) (sym c.in_ok-rest.ensures.rest)
    (some_rise R g.met.K.Ord.total (stays R c.args.layers.now c.args.floor.now) es
    (subst (Rise R) (sym c.entries.ensures.pairs) c.entries.ensures.rising))

pub returns : goal.returns
returns g c =
    let R = g.K.Ord.cmp in
    let key = g.V.Keyed.key in
    let layers = c.args.layers.now in
    let floor = c.args.floor.now in
    let both = sunken_as key R g.met.K.Ord.total c.requires.exact c.args.run.now layers
    floor (map pair c.entries.result.now) floor c.in_ok-layers.layers
    (map pair c.in_ok-rest.rest.items) c.in_ok-rest.values.items c.entries.ensures.pairs
    refl c.in_ok-rest.ensures.rest c.in_ok-rest.ensures.values
    (c.in_ok-layers.ensures ∙ ap (λ l. put_all R l layers) c.of.ensures)
    c.entries.ensures.rising c.requires.run c.requires.layers c.requires.floor in (
      both.0,
      both.1,
      sunk_unseen key R g.met.K.Ord.total c.requires.exact c.args.run.now layers floor c.in_ok-rest.values.items
          (c.in_ok-rest.ensures.values ∙ ap (sunk R layers floor) c.entries.ensures.pairs)
          c.entries.ensures.rising c.requires.run c.requires.floor,
    )
