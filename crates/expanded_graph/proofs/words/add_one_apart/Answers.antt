-- What a search finds is known.
use Rattle.expanded_graph.proofs.WordsNear.{apart_found}
use Rattle.expanded_graph.proofs.words.add_one_apart.Goals as goal

pub returns-else-is_err : goal.returns-else-is_err
returns-else-is_err g c =
    apart_found c.args.known.now c.args.item c.args.list.now.items g.T.Ord.cmp c.requires c.binary_search.result
    c.binary_search.ensures.bound c.binary_search.ensures.position c.is_err.result c.is_err.ensures.value
    c.if-is_err.false
