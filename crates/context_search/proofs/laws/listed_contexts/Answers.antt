use Rattle.std.specs.FinMap.{values}
use Rattle.context_search.proofs.SearchEntries.{are_spots, in_order}
use Rattle.context_search.proofs.laws.listed_contexts.Goals as goal

pub returns-clause-order : goal.returns-clause-order
returns-clause-order g c = λ M m are. in_order M (g.P.Profile.rules c.args.profile.now) m are

pub returns-clause-spots : goal.returns-clause-spots
returns-clause-spots g c = λ M m are.
    let P = g.P.Profile.rules c.args.profile.now in
    let o = c.name_order.ensures in
    let ways = (in_order M P m are).ways in
    let v = c.values_in_order.ensures in
    are_spots M P o.ways o.names o.lists (c.one_name.ensures.pieces M) (c.has_block.ensures M) m are (values m)
    (v.each m ways) (v.ascending m ways)
