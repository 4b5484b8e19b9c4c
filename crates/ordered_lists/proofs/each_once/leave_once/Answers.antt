use Rattle.std.proofs.lemmas.List.Filters.{dedup_is}
use Rattle.ordered_lists.proofs.SortedOnce.{dedup_rises, dedup_keeps, dedup_from_all}
use Rattle.ordered_lists.proofs.each_once.leave_once.Goals as goal

pub returns-clause-ascending : goal.returns-clause-ascending
returns-clause-ascending g c =
    let E = g.T.PartialEq.eq in
    dedup_rises g.T.Ord.cmp g.met.T.Ord.total c.requires E (λ x y. g.met.T.Ord.matches_eq x y) c.args.list.now.items _ _
    c.sort_unstable.ensures.permutation (dedup_is E _ _ c.dedup.ensures.filtered) c.sort_unstable.ensures.sorted

pub returns-clause-exactly : goal.returns-clause-exactly
returns-clause-exactly g c =
    let E = g.T.PartialEq.eq in
    let left = dedup_is E _ _ c.dedup.ensures.filtered in
    λ x. (
      dedup_from_all g.T.Ord.cmp g.met.T.Ord.total c.requires E (λ y z. g.met.T.Ord.matches_eq y z)
          c.args.list.now.items _ _ c.sort_unstable.ensures.permutation left x,
      dedup_keeps g.T.Ord.cmp g.met.T.Ord.total c.requires E (λ y z. g.met.T.Ord.matches_eq y z)
          c.args.list.now.items _ _ c.sort_unstable.ensures.permutation left x,
    )
