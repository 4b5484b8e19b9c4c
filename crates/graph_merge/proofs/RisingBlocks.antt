-- Blocks whose ways ascend up to a place.
use Rattle.std.proofs.Common.{◌≡◌, ℕ, ◌+◌, ◌-◌, ◌<◌, ◌≤◌, List, [], ◌∷◌, ◌++◌, length, map, take, get_or, IsTrue}
use Rattle.std.proofs.Common.{false, true, inl, inr, refl, sym, ap, subst, ◌∙◌, arith, Ordering, take_all}
use Rattle.std.specs.declared.cmp.Ordering.TheVariants.{Less, Equal, Greater}
use Rattle.std.specs.Ordering.{is_lt, is_le, ordering_reverse}
use Rattle.std.specs.Cmp.{IsTotalOrder}
use Rattle.std.proofs.lemmas.List.{take_more, map_push}
use Rattle.road_model.specs.declared.blocks.Block.{Block}
use Rattle.road_model.specs.Orders.{way_cmp}
use Rattle.road_model.proofs.TotalOrders.{way_cmp_total}
use Rattle.ordered_lists.specs.Orders.{rises}
use Rattle.ordered_lists.proofs.Comparisons.{less}
use Rattle.ordered_lists.proofs.ListMembers.{push_cases}
use Rattle.ordered_lists.proofs.RisingLists.{one_more_rises, below_last}

-- one that is above the last one comes behind them
above_last : {N : Type 0} (R : N → N → Ordering) → IsTotalOrder R → (xs : List N) (x y : N)
    → IsTrue (rises R (xs ++ x ∷ [])) → IsTrue (is_lt (R x y)) → IsTrue (rises R ((xs ++ x ∷ []) ++ y ∷ []))
above_last R total xs x y up above =
    let next : R x y ≡ Less = less (R x y) above in
    one_more_rises R (xs ++ x ∷ []) y up (λ z i. elim (push_cases xs x z i) [
      | inl j ↦ total.trans z x y (below_last R total xs x up z j) next
      | inr e ↦ subst (λ v. R v y ≡ Less) (sym e) next
    ])

-- the ways of the first so many blocks and one more
front_ways : (bs : List Block) (n : ℕ) (d : Block) → n < length bs
    → map (λ (b : Block). b.way) (take (n + 1) bs) ≡ map (λ (b : Block). b.way) (take n bs) ++ (get_or bs n d).way ∷ []
front_ways bs n d within =
    ap (map (λ (b : Block). b.way)) (take_more bs n d within)
    ∙ map_push (λ (b : Block). b.way) (take n bs) (get_or bs n d)

pub one_rises : (bs : List Block) → IsTrue (rises way_cmp (map (λ b. b.way) (take 1 bs)))
one_rises [] = refl
one_rises (b ∷ bs) = refl

pub more_rises : (bs : List Block) (n : ℕ) (d e : Block) → 1 ≤ n → n < length bs
    → IsTrue (rises way_cmp (map (λ b. b.way) (take n bs)))
    → IsTrue (is_lt (way_cmp (get_or bs (n - 1) d).way (get_or bs n e).way))
    → IsTrue (rises way_cmp (map (λ b. b.way) (take (n + 1) bs)))
more_rises bs n d e some within up above =
    let k : ℕ = n - 1 in
    let last : k + 1 ≡ n = omega (arith, some) in
    let front = front_ways bs k d (omega (arith, within)) in
    let before : map (λ (b : Block). b.way) (take n bs)
    ≡ map (λ (b : Block). b.way) (take k bs) ++ (get_or bs k d).way ∷ []
    = ap (λ m. map (λ (b : Block). b.way) (take m bs)) (sym last) ∙ front in
    let after = front_ways bs n e within ∙ ap (λ l. l ++ (get_or bs n e).way ∷ []) before in
    subst (λ l. IsTrue (rises way_cmp l)) (sym after)
    (above_last way_cmp way_cmp_total (map (λ (b : Block). b.way) (take k bs)) (get_or bs k d).way (get_or bs n e).way
    (subst (λ l. IsTrue (rises way_cmp l)) before up) above)

pub all_rise : (bs : List Block) (n : ℕ) → length bs ≤ n → IsTrue (rises way_cmp (map (λ b. b.way) (take n bs)))
    → IsTrue (rises way_cmp (map (λ b. b.way) bs))
all_rise bs n long up = subst (λ l. IsTrue (rises way_cmp (map (λ b. b.way) l))) (take_all n bs long) up

-- what isn't at most another one is above it
pub above_not_upto : (r : Ordering) → is_le r ≡ false → is_lt (ordering_reverse r) ≡ true
above_not_upto Less h = cc
above_not_upto Equal h = cc
above_not_upto Greater h = refl
