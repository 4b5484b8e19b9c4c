use Rattle.std.proofs.Common.{◌&&◌}
use Rattle.std.specs.Cmp.{then_total, on_total}
use Rattle.std.proofs.lemmas.List.Filters.{dedup_is}
use Rattle.ordered_lists.proofs.SortedOnce.{dedup_rises, dedup_keeps, dedup_from_all}
use Rattle.layered_maps.specs.Lists.{pair_cmp}
use Rattle.layered_maps.proofs.SortedPairs.{pairs_exact, both_tie}
use Rattle.layered_maps.proofs.pair_list.put_in_order.Goals as goal

pub returns-clause-ascending : goal.returns-clause-ascending
returns-clause-ascending g c =
    let C = pair_cmp g.K.Ord.cmp g.V.Ord.cmp in
    let total = then_total (on_total (λ (p : g.row.K.Denot × g.row.V.Denot). p.0) g.met.K.Ord.total)
    (on_total (λ (p : g.row.K.Denot × g.row.V.Denot). p.1) g.met.V.Ord.total) in
    let E = λ (p q : g.row.K.Denot × g.row.V.Denot). g.K.PartialEq.eq p.0 q.0 && g.V.PartialEq.eq p.1 q.1 in
    dedup_rises C total (pairs_exact g.K.Ord.cmp g.V.Ord.cmp c.requires.keys c.requires.values) E
    (λ x y. both_tie _ _ _ _ (g.met.K.Ord.matches_eq x.0 y.0) (g.met.V.Ord.matches_eq x.1 y.1))
    c.args.pairs.now.items _ _ c.sort_unstable.ensures.permutation (dedup_is E _ _ c.dedup.ensures.filtered)
    c.sort_unstable.ensures.sorted

pub returns-clause-exactly : goal.returns-clause-exactly
returns-clause-exactly g c =
    let C = pair_cmp g.K.Ord.cmp g.V.Ord.cmp in
    let total = then_total (on_total (λ (p : g.row.K.Denot × g.row.V.Denot). p.0) g.met.K.Ord.total)
    (on_total (λ (p : g.row.K.Denot × g.row.V.Denot). p.1) g.met.V.Ord.total) in
    let E = λ (p q : g.row.K.Denot × g.row.V.Denot). g.K.PartialEq.eq p.0 q.0 && g.V.PartialEq.eq p.1 q.1 in
    let exact = pairs_exact g.K.Ord.cmp g.V.Ord.cmp c.requires.keys c.requires.values in
    let left = dedup_is E _ _ c.dedup.ensures.filtered in
    λ p. (
      dedup_from_all C total exact E (λ x y. both_tie _ _ _ _ (g.met.K.Ord.matches_eq x.0 y.0)
          (g.met.V.Ord.matches_eq x.1 y.1)) c.args.pairs.now.items _ _ c.sort_unstable.ensures.permutation left p,
      dedup_keeps C total exact E (λ x y. both_tie _ _ _ _ (g.met.K.Ord.matches_eq x.0 y.0)
          (g.met.V.Ord.matches_eq x.1 y.1)) c.args.pairs.now.items _ _ c.sort_unstable.ensures.permutation left p,
    )
