-- The first block of a sorted list that isn't above the one before it.
use Rattle.std.proofs.Common.{◌≡◌, ℕ, ◌+◌, ◌<◌, ◌≤◌, true, false, List, [], ◌∷◌, length, take}
use Rattle.std.proofs.Common.{drop, get_or, inl, inr, Ordering, refl, sym, ap, subst, ◌∙◌, arith, IsSortedByKey}
use Rattle.std.proofs.Common.{length-drop, get_or-drop, IsPermutation}
use Rattle.std.specs.declared.cmp.Ordering.TheVariants.{Less, Equal, Greater}
use Rattle.std.specs.Ordering.{is_lt, is_le, ordering_reverse}
use Rattle.std.proofs.lemmas.Bool.{false≢true}
use Rattle.std.proofs.lemmas.List.Sums.{sum_by_more, sum_by-take-le, sum_by-take-drop}
use Rattle.std.proofs.lemmas.List.Sorted.{sorted_far, ranks_by, sum_by-IsPermutation}
use Rattle.road_base.specs.declared.ids.WayId.{WayId}
use Rattle.road_model.specs.declared.blocks.Block.{Block}
use Rattle.road_model.specs.Orders.{way_cmp}
use Rattle.road_model.proofs.TotalOrders.{way_cmp_total, way_cmp_exact}
use Rattle.ordered_lists.proofs.Comparisons.{eq_cases, turned}
use Rattle.ordered_lists.proofs.ListMembers.{In, contains_from_in}
use Rattle.graph_merge.specs.Collecting.{StopsRising}
use Rattle.graph_merge.proofs.CountedWays.{is_of, times, once_for, own_once, has_none, at_most_once}

-- neither is below the other
tied : (r : Ordering) → is_lt r ≡ false → is_lt (ordering_reverse r) ≡ false → r ≡ Equal
tied Less h k = cc
tied Equal h k = refl
tied Greater h k = cc

-- what isn't above is at most it
pub upto : (r : Ordering) → is_lt (ordering_reverse r) ≡ false → is_le r ≡ true
upto Less h = refl
upto Equal h = refl
upto Greater h = cc

-- an element of a list that isn't empty
record SomeBlock : Type 0 where
  block : Block

some_block : (bs : List Block) (n : ℕ) → n < length bs → SomeBlock
some_block [] n within = absurd (omega (arith, within))
some_block (b ∷ bs) n within = record { block = b }

module _ (bs : List Block) (sorted : IsSortedByKey (λ (b : Block). b.way) way_cmp bs) (w : WayId)
    (stop : StopsRising bs w) where
  -- no later one is below the way
  far : (i : ℕ) (d : Block) → stop.place + 1 ≤ i → i < length bs → is_lt (way_cmp (get_or bs i d).way w) ≡ false
  far i d behind within =
      subst (λ v. is_lt (way_cmp (get_or bs i d).way v) ≡ false) (stop.way_is d)
      (sorted_far (λ (x y : Block). is_lt (way_cmp x.way y.way)) (ranks_by way_cmp_total (λ (b : Block). b.way)) bs
      sorted
      (stop.place + 1) i d behind within)

  before_is : (d : Block) → (get_or bs stop.place d).way ≡ w
  before_is d =
      let within = stop.within in
      let x : WayId = (get_or bs stop.place d).way in
      let back : is_lt (way_cmp w x) ≡ false =
      subst (λ v. is_lt (way_cmp v x) ≡ false) (stop.way_is d)
      (sorted_far (λ (x y : Block). is_lt (way_cmp x.way y.way)) (ranks_by way_cmp_total (λ (b : Block). b.way)) bs
      sorted
      stop.place (stop.place + 1) d (omega arith) within) in
      way_cmp_exact x w (tied (way_cmp x w) (stop.stops d)
      (ap is_lt (sym (turned way_cmp way_cmp_total x w (way_cmp x w) refl)) ∙ back))

  -- two blocks of the way stand there
  pub two : 2 ≤ times w bs
  two =
      let within = stop.within in
      let n : ℕ = stop.place in
      let some = some_block bs n (omega (arith, within)) in
      let d : Block = some.block in
      let first = sum_by_more (once_for w) bs n d (omega (arith, within)) in
      let second = sum_by_more (once_for w) bs (n + 1) d within in
      let one = own_once w (get_or bs n d) (before_is d) in
      let other = own_once w (get_or bs (n + 1) d) (stop.way_is d) in
      let few = sum_by-take-le (once_for w) bs (n + 1 + 1) in
      omega (arith, first, second, one, other, few)

  -- behind the place no block is of a lesser way
  none_behind : (u : WayId) → is_lt (way_cmp u w) ≡ true → (b : Block) → In b (drop (stop.place + 1) bs)
      → is_of u b ≡ false
  none_behind u below b i =
      elim (eq_cases (way_cmp b.way u)) [
        | inl e ↦
            let n : ℕ = stop.place + 1 in
            let has = contains_from_in (drop n bs) b i in
            let within = has.1 in
            let long = length-drop n bs in
            let is : get_or bs (n + has.0) b ≡ b = sym (get_or-drop n bs has.0 b) ∙ has.2 in
            let later = far (n + has.0) b (omega arith) (omega (arith, within, long)) in
            let own : b.way ≡ u = way_cmp_exact b.way u e in
            absurd (false≢true (sym later ∙ ap (λ (x : Block). is_lt (way_cmp x.way w)) is
            ∙ ap (λ v. is_lt (way_cmp v w)) own ∙ below))
        | inr e ↦ e
      ]

  -- and of a lesser way there is one at most
  pub lesser_once : (u : WayId) → is_lt (way_cmp u w) ≡ true → times u bs ≤ 1
  lesser_once u below =
      let n : ℕ = stop.place + 1 in
      let few = at_most_once u (take n bs) stop.front in
      let none = has_none u (drop n bs) (none_behind u below) in
      let all = sum_by-take-drop (once_for u) bs n in
      omega (arith, few, none, all)

-- the same blocks in another order have as many of each way
pub times_kept : (w : WayId) (old new : List Block) → IsPermutation old new → times w new ≡ times w old
times_kept w old new same = sum_by-IsPermutation (once_for w) old new same
