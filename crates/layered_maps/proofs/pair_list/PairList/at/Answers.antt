use Rattle.std.proofs.Common.{◌≡◌, ◌<◌, ◌≤◌, ◌-◌, slice_index_or, true, false, length, take, drop, sym, ap, ◌∙◌, subst}
use Rattle.std.proofs.Common.{Contains}
use Rattle.std.specs.Ordering.{is_lt, is_le}
use Rattle.std.specs.List.{zip, AllWithin}
use Rattle.std.specs.List.Sorted.{IsPartitionedBy, IsPartitionPoint}
use Rattle.ordered_lists.specs.Orders.{Lists}
use Rattle.ordered_lists.proofs.SortedParts.{low_first}
use Rattle.layered_maps.proofs.Lookups.{below_parted, upto_point, found_lists}
use Rattle.layered_maps.proofs.pair_list.PairList.at.Goals as goal

pub first_near-low-requires-clause-parted : goal.first_near-low-requires-clause-parted
first_near-low-requires-clause-parted g c =
    subst (λ l. IsPartitionedBy (λ a. is_lt (g.K.Ord.cmp a c.args.key)) l) (sym c.as_slice-keys.ensures.value)
    (below_parted g.K.Ord.cmp g.V.Ord.cmp g.met.K.Ord.total g.met.V.Ord.total c.self.inside.keys.items
    c.self.inside.values.items c.self.invariant.0 c.self.invariant.1 c.args.key)

pub part-requires-clause-rising : goal.part-requires-clause-rising
part-requires-clause-rising g c =
    let R = g.K.Ord.cmp in
    let S = g.V.Ord.cmp in
    let keys = c.self.inside.keys.items in
    let values = c.self.inside.values.items in
    let e = c.as_slice-keys.ensures.value in
    let below = subst (λ l. IsPartitionPoint (λ a. is_lt (R a c.args.key) ≡ true) (λ a. is_lt (R a c.args.key) ≡ false)
    l c.first_near-low.result) e c.first_near-low.ensures.point in
    let within = upto_point R S g.met.K.Ord.total g.met.V.Ord.total keys values c.self.invariant.0 c.self.invariant.1
    c.args.key c.first_near-low.result c.end_from-high.result below
    (subst (λ l. AllWithin (λ a. is_le (R a c.args.key) ≡ true) l c.first_near-low.result c.end_from-high.result) e
    c.end_from-high.ensures.upto)
    (subst (λ l. (d : _) → c.end_from-high.result < length l
    → is_le (R (slice_index_or l c.end_from-high.result d) c.args.key) ≡ false) e c.end_from-high.ensures.next) in
    low_first (λ a. a) R c.args.key c.args.key keys c.first_near-low.result c.end_from-high.result below within
    (subst (λ l. c.first_near-low.result ≤ length l) e c.first_near-low.ensures.bound)
    (subst (λ l. c.end_from-high.result ≤ length l) e c.end_from-high.ensures.bound)

pub returns : goal.returns
returns g c =
    let R = g.K.Ord.cmp in
    let S = g.V.Ord.cmp in
    let keys = c.self.inside.keys.items in
    let values = c.self.inside.values.items in
    let e = c.as_slice-keys.ensures.value in
    let below = subst (λ l. IsPartitionPoint (λ a. is_lt (R a c.args.key) ≡ true) (λ a. is_lt (R a c.args.key) ≡ false)
    l c.first_near-low.result) e c.first_near-low.ensures.point in
    let within = upto_point R S g.met.K.Ord.total g.met.V.Ord.total keys values c.self.invariant.0 c.self.invariant.1
    c.args.key c.first_near-low.result c.end_from-high.result below
    (subst (λ l. AllWithin (λ a. is_le (R a c.args.key) ≡ true) l c.first_near-low.result c.end_from-high.result) e
    c.end_from-high.ensures.upto)
    (subst (λ l. (d : _) → c.end_from-high.result < length l
    → is_le (R (slice_index_or l c.end_from-high.result d) c.args.key) ≡ false) e c.end_from-high.ensures.next) in
    let lists = found_lists R S g.met.K.Ord.total g.met.V.Ord.total keys values c.self.invariant.0 c.self.invariant.1
    c.requires c.args.key _ _ below within
    (subst (λ l. c.first_near-low.result ≤ length l) e c.first_near-low.ensures.bound)
    (subst (λ l. c.end_from-high.result ≤ length l) e c.end_from-high.ensures.bound) in
    subst (λ ps. Lists (λ v. v) S (λ v. Contains ps (c.args.key, v)) c.part.result.now) c.self.view_is
    (subst (λ l. Lists (λ v. v) S (λ v. Contains (zip keys values) (c.args.key, v)) l)
    (sym (c.part.ensures ∙ ap (λ l. take (c.end_from-high.result - c.first_near-low.result)
    (drop c.first_near-low.result l)) c.as_slice.ensures.value)) lists)
