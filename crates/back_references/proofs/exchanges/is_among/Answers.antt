use Rattle.back_references.proofs.ExchangedPairs.{found_among}
use Rattle.back_references.proofs.exchanges.is_among.Goals as goal

pub returns : goal.returns
returns g c =
    found_among g.V.Ord.cmp g.met.V.Ord.total c.requires.exact c.args.values.now c.args.value c.requires.ascending
    c.binary_search.result c.binary_search.ensures.bound c.binary_search.ensures.position c.is_ok.result
    c.is_ok.ensures.value
