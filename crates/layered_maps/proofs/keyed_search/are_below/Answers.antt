use Rattle.std.proofs.Common.{◌<◌, length, arith, slice_index_or, sym, ◌∙◌}
use Rattle.std.proofs.lemmas.Option.{slice_get-get_or}
use Rattle.ordered_lists.proofs.Comparisons.{less}
use Rattle.ordered_lists.proofs.SortedMaps.{below_to}
use Rattle.layered_maps.proofs.keyed_search.are_below.Goals as goal

pub returns-in-Some : goal.returns-in-Some
returns-in-Some g c = λ below k d from to.
    let list = c.args.list.now in
    let before = c.in-Some.before in
    let within : before < length list = omega (arith, c.requires.within, c.in-Some.ensures) in
    below_to g.V.Keyed.key g.K.Ord.cmp g.met.K.Ord.total c.args.key list (slice_index_or list before d) before
    c.requires.ascending within (slice_get-get_or list before d within)
    (less _ (sym (c.is_below_at.ensures d) ∙ below)) k d (omega (arith, to, c.in-Some.ensures))
