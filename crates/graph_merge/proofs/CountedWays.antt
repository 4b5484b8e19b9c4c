-- How many blocks of a way a list has.
use Rattle.std.proofs.Common.{◌≡◌, ℕ, ◌+◌, ◌≤◌, Bool, true, false, cond, List, [], ◌∷◌, ◌++◌, map, IsTrue, inl, inr}
use Rattle.std.proofs.Common.{refl, sym, ap, ◌∙◌, arith, count_by}
use Rattle.std.specs.declared.cmp.Ordering.TheVariants.{Less}
use Rattle.std.specs.Ordering.{is_lt, is_eq}
use Rattle.std.proofs.lemmas.Cmp.{tied_itself}
use Rattle.std.proofs.lemmas.List.Sums.{sum_by-cons, sum_by-append}
use Rattle.road_base.specs.declared.ids.WayId.{WayId}
use Rattle.road_model.specs.declared.blocks.Block.{Block}
use Rattle.road_model.specs.Orders.{way_cmp}
use Rattle.road_model.proofs.TotalOrders.{way_cmp_total, way_cmp_exact}
use Rattle.ordered_lists.specs.Orders.{rises}
use Rattle.ordered_lists.proofs.Comparisons.{eq_cases, less, turned}
use Rattle.ordered_lists.proofs.ListMembers.{In}
use Rattle.ordered_lists.proofs.AscendingLists.{Climbs, climbs}

-- the block is one of the way
abbrev pub is_of : WayId → Block → Bool
is_of w b = is_eq (way_cmp b.way w)

abbrev pub times : WayId → List Block → ℕ
times w bs = count_by (is_of w) bs

-- one for a block of the way
abbrev pub once_for : WayId → Block → ℕ
once_for w b = cond (is_of w b) 1 0

pub own_is : (w : WayId) (b : Block) → b.way ≡ w → is_of w b ≡ true
own_is w b own = ap is_eq (ap (λ v. way_cmp v w) own ∙ tied_itself way_cmp_total w)

pub own_once : (w : WayId) (b : Block) → b.way ≡ w → once_for w b ≡ 1
own_once w b own = ap (λ t. cond t 1 0) (own_is w b own)

pub other_none : (w : WayId) (b : Block) → is_of w b ≡ false → once_for w b ≡ 0
other_none w b other = ap (λ t. cond t 1 0) other

pub times_more : (w : WayId) (b : Block) (bs : List Block) → times w (b ∷ bs) ≡ once_for w b + times w bs
times_more w b bs = sum_by-cons (once_for w) b bs

pub times_both : (w : WayId) (first second : List Block) → times w (first ++ second) ≡ times w first + times w second
times_both w first second = sum_by-append (once_for w) first second

pub has_some : (w : WayId) (bs : List Block) (b : Block) → In b bs → b.way ≡ w → 1 ≤ times w bs
has_some w [] b i own = absurd i
has_some w (x ∷ bs) b (inl e) own =
    let one = own_once w x (ap (λ (y : Block). y.way) (sym e) ∙ own) in
    let all = times_more w x bs in
    omega (arith, one, all)
has_some w (x ∷ bs) b (inr i) own =
    let some = has_some w bs b i own in
    let all = times_more w x bs in
    omega (arith, some, all)

pub has_none : (w : WayId) (bs : List Block) → ((b : Block) → In b bs → is_of w b ≡ false) → times w bs ≡ 0
has_none w [] none = refl
has_none w (x ∷ bs) none =
    times_more w x bs ∙ ap (λ n. n + times w bs) (other_none w x (none x (inl refl)))
    ∙ ap (λ n. 0 + n) (has_none w bs (λ b i. none b (inr i)))

-- a block of the way
pub record OfWay (w : WayId) (bs : List Block) : Type 0 where
  pub block : Block
  pub inside : In block bs
  pub own : block.way ≡ w

pub from_some : (w : WayId) (bs : List Block) → 1 ≤ times w bs → OfWay w bs
from_some w [] some = absurd (omega (arith, some))
from_some w (x ∷ bs) some = elim (eq_cases (way_cmp x.way w)) [
  | inl e ↦ record { block = x; inside = inl refl; own = way_cmp_exact x.way w e }
  | inr e ↦
      let none = other_none w x e in
      let all = times_more w x bs in
      let later = from_some w bs (omega (arith, some, none, all)) in
      record { block = later.block; inside = inr later.inside; own = later.own }
]

-- a block that is above another one isn't of its way
above_other : (w : WayId) (x y : Block) → x.way ≡ w → IsTrue (is_lt (way_cmp x.way y.way)) → is_of w y ≡ false
above_other w x y own above =
    ap is_eq (ap (λ v. way_cmp y.way v) (sym own)
    ∙ turned way_cmp way_cmp_total x.way y.way Less (less (way_cmp x.way y.way) above))

climbs_once : (w : WayId) (bs : List Block) → Climbs (λ (b : Block). b.way) way_cmp way_cmp_total bs → times w bs ≤ 1
climbs_once w [] up = omega arith
climbs_once w (x ∷ bs) up = elim (eq_cases (way_cmp x.way w)) [
  | inl e ↦
      let own : x.way ≡ w = way_cmp_exact x.way w e in
      let one = own_once w x own in
      let none = has_none w bs (λ b i. above_other w x b own (up.0 b i)) in
      let all = times_more w x bs in
      omega (arith, one, none, all)
  | inr e ↦
      let none = other_none w x e in
      let few = climbs_once w bs up.1 in
      let all = times_more w x bs in
      omega (arith, none, few, all)
]

-- where the ways ascend each has one block at most
pub at_most_once : (w : WayId) (bs : List Block) → IsTrue (rises way_cmp (map (λ b. b.way) bs)) → times w bs ≤ 1
at_most_once w bs up = climbs_once w bs (climbs (λ (b : Block). b.way) way_cmp way_cmp_total bs up)
