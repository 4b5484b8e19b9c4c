use Rattle.std.proofs.Common.{◌<◌, length, arith, slice_index_or, sym, ◌∙◌}
use Rattle.std.proofs.lemmas.Option.{slice_get-get_or}
use Rattle.ordered_lists.proofs.SortedMaps.{above_from}
use Rattle.layered_maps.specs.Maps.{keyed}
use Rattle.layered_maps.proofs.FoundPairs.{pairs_rise}
use Rattle.layered_maps.proofs.FoundPlaces.{equal_told, greater_told}
use Rattle.layered_maps.proofs.RunsFrom.{pairs_parted}
use Rattle.layered_maps.proofs.keyed_search.find_key.Goals as goal

pub count_below-at-requires : goal.count_below-at-requires
count_below-at-requires g c =
    let key = g.V.Keyed.key in
    pairs_parted (keyed key) g.K.Ord.cmp g.met.K.Ord.total c.args.key c.args.list.now
    (pairs_rise key g.K.Ord.cmp g.met.K.Ord.total c.args.list.now c.requires.ascending)

pub returns-then-has_at-clause-found : goal.returns-then-has_at-clause-found
returns-then-has_at-clause-found g c = λ d.
    c.requires.exact _ _ (equal_told _ (sym (c.has_at.ensures d) ∙ c.if-has_at.true))

pub returns-else-has_at-clause-behind : goal.returns-else-has_at-clause-behind
returns-else-has_at-clause-behind g c = λ k d from to.
    let list = c.args.list.now in
    let at = c.count_below-at.result in
    let within : at < length list = omega (arith, from, to) in
    above_from g.V.Keyed.key g.K.Ord.cmp g.met.K.Ord.total c.args.key list (slice_index_or list at d) at
    c.requires.ascending (slice_get-get_or list at d within)
    (greater_told _ (c.count_below-at.ensures.point.1 at d (omega arith) within)
    (sym (c.has_at.ensures d) ∙ c.if-has_at.false)) k d from to
