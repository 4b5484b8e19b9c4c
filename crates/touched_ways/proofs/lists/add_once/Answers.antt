use Rattle.std.proofs.lemmas.List.Filters.{dedup_is}
use Rattle.ordered_lists.proofs.SortedOnce.{dedup_rises, dedup_keeps, dedup_from_all}
use Rattle.touched_ways.proofs.NumberLists.{contains_once}
use Rattle.touched_ways.proofs.lists.add_once.Goals as goal

pub returns-clause-ascending : goal.returns-clause-ascending
returns-clause-ascending g c =
    let E = g.T.PartialEq.eq in
    dedup_rises g.T.Ord.cmp g.met.T.Ord.total c.requires E (λ x y. g.met.T.Ord.matches_eq x y)
    c.extend_from_slice.new.self.items _ _ c.in_ok-sort.ensures.permutation (dedup_is E _ _ c.dedup.ensures.filtered)
    c.in_ok-sort.ensures.sorted

pub returns-clause-exactly : goal.returns-clause-exactly
returns-clause-exactly g c =
    let E = g.T.PartialEq.eq in
    let all = c.extend_from_slice.new.self.items in
    let left = dedup_is E _ _ c.dedup.ensures.filtered in
    contains_once c.args.list.now.items all c.dedup.new.self.items c.args.numbers.now
    c.in_ok-extend_from_slice.ensures.items
    (λ x. (
      dedup_from_all g.T.Ord.cmp g.met.T.Ord.total c.requires E (λ y z. g.met.T.Ord.matches_eq y z) all _ _
          c.in_ok-sort.ensures.permutation left x,
      dedup_keeps g.T.Ord.cmp g.met.T.Ord.total c.requires E (λ y z. g.met.T.Ord.matches_eq y z) all _ _
          c.in_ok-sort.ensures.permutation left x,
    ))
