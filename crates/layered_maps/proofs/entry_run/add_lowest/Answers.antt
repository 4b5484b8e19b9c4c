use Rattle.std.proofs.Common.{sym, ap}
use Rattle.layered_maps.specs.Layers.{pair}
use Rattle.layered_maps.proofs.MergedPairs.{first_and_rest, moved, lowest_first, heads_tied, lowest_second}
use Rattle.layered_maps.proofs.entry_run.add_lowest.Goals as goal

pub returns-in_ok-push-in-Less-clause-added : goal.returns-in_ok-push-in-Less-clause-added
returns-in_ok-push-in-Less-clause-added g c =
    let R = g.K.Ord.cmp in
    let own = c.index-first-0 in
    let other = c.index-second-0 in
    moved pair _ _ _ (pair own.result) _ _ c.in_ok-push-in-Less.ensures.items c.in_ok-share-in-Less.ensures
    (lowest_first R g.met.K.Ord.total _ _ (pair own.result) _ (pair other.result) _
    c.requires.first c.requires.second
    (first_and_rest pair c.args.first.now own.result c.requires.some own.is)
    (first_and_rest pair c.args.second.now other.result c.requires.others other.is)
    (sym {b = R own.result.key other.result.key} c.in-Less.ensures))

pub returns-in_ok-push-in-Equal-clause-added : goal.returns-in_ok-push-in-Equal-clause-added
returns-in_ok-push-in-Equal-clause-added g c =
    let R = g.K.Ord.cmp in
    let own = c.index-first-0 in
    let other = c.index-second-0 in
    moved pair _ _ _ (other.result.key, own.result.value.value) _ _ c.in_ok-push-in-Equal.ensures.items
    (ap (λ v. (other.result.key, v)) c.in_ok-value-in-Equal.ensures.cases)
    (heads_tied R g.met.K.Ord.total _ _ (pair own.result) _ (pair other.result) _ c.requires.first
    (first_and_rest pair c.args.first.now own.result c.requires.some own.is)
    (first_and_rest pair c.args.second.now other.result c.requires.others other.is)
    (sym {b = R own.result.key other.result.key} c.in-Equal.ensures))

pub returns-in_ok-push-in-Greater-clause-added : goal.returns-in_ok-push-in-Greater-clause-added
returns-in_ok-push-in-Greater-clause-added g c =
    let R = g.K.Ord.cmp in
    let own = c.index-first-0 in
    let other = c.index-second-0 in
    moved pair _ _ _ (pair other.result) _ _ c.in_ok-push-in-Greater.ensures.items c.in_ok-share-in-Greater.ensures
    (lowest_second R g.met.K.Ord.total _ _ (pair own.result) _ (pair other.result) _ c.requires.first
    (first_and_rest pair c.args.first.now own.result c.requires.some own.is)
    (first_and_rest pair c.args.second.now other.result c.requires.others other.is)
    (sym {b = R own.result.key other.result.key} c.in-Greater.ensures))
