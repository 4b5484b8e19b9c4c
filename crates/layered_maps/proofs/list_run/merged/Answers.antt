use Rattle.std.proofs.lemmas.List.Filters.{dedup_is}
use Rattle.ordered_lists.proofs.SortedOnce.{dedup_rises, dedup_keeps, dedup_from_all}
use Rattle.layered_maps.proofs.KeyedLists.{joined, contains_joined}
use Rattle.layered_maps.proofs.list_run.merged.Goals as goal

pub returns-clause-ascending : goal.returns-clause-ascending
returns-clause-ascending g c =
    let E = g.K.PartialEq.eq in
    dedup_rises g.K.Ord.cmp g.met.K.Ord.total c.requires E (λ x y. g.met.K.Ord.matches_eq x y)
    c.extend_from_slice-2.new.self.items _ _ c.in_ok-sort.ensures.permutation (dedup_is E _ _ c.dedup.ensures.filtered)
    c.in_ok-sort.ensures.sorted

pub returns-clause-exactly : goal.returns-clause-exactly
returns-clause-exactly g c =
    let E = g.K.PartialEq.eq in
    let left = dedup_is E _ _ c.dedup.ensures.filtered in
    let all = c.extend_from_slice-2.new.self.items in
    let same = contains_joined c.args.first.now c.args.second.now all
    (joined c.in_ok-keys.keys.items c.args.first.now c.extend_from_slice.new.self.items c.args.second.now all
    c.in_ok-keys.ensures.items c.in_ok-extend_from_slice.ensures.items c.in_ok-extend_from_slice-2.ensures.items) in
    λ k. (
      λ h. (same k).0 (dedup_from_all g.K.Ord.cmp g.met.K.Ord.total c.requires E (λ y z. g.met.K.Ord.matches_eq y z)
          all _ _ c.in_ok-sort.ensures.permutation left k h),
      λ h. dedup_keeps g.K.Ord.cmp g.met.K.Ord.total c.requires E (λ y z. g.met.K.Ord.matches_eq y z)
          all _ _ c.in_ok-sort.ensures.permutation left k ((same k).1 h),
    )
