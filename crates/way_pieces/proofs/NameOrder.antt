-- The order of names: by way, then by position, forward before backward.
use Rattle.std.proofs.Common.{◌≡◌, ℕ, ◌<◌, true, nat_lt, IsTrue, refl, subst, Ordering}
use Rattle.std.specs.declared.cmp.Ordering.TheVariants.{Less, Equal}
use Rattle.std.specs.Ordering.{nat_cmp, is_lt, ordering_then}
use Rattle.std.proofs.lemmas.Bool.{lt-ltb}
use Rattle.std.proofs.lemmas.Cmp.{nat_cmp_total, tied_itself}
use Rattle.road_base.specs.declared.ids.WayId.{WayId}
use Rattle.road_base.specs.declared.ids.Dir.TheVariants.{Forward, Backward}
use Rattle.road_model.specs.declared.lists.PieceName.{PieceName}
use Rattle.road_model.specs.Orders.{way_cmp, dir_cmp, name_cmp}
use Rattle.ordered_lists.proofs.Comparisons.{less}
use Rattle.road_model.proofs.TotalOrders.{way_cmp_total, less_first}

below_less : (i j : ℕ) → i < j → nat_cmp i j ≡ Less
below_less i j h = let e : nat_lt i j ≡ true = lt-ltb i j h in rw e refl

less_second : (r s : Ordering) → r ≡ Equal → IsTrue (is_lt s) → IsTrue (is_lt (ordering_then r s))
less_second r s e h = rw e h

pub way_first : (a b : PieceName) → IsTrue (is_lt (way_cmp a.way b.way)) → IsTrue (is_lt (name_cmp a b))
way_first a b h = less_first (way_cmp a.way b.way) _ (less _ h)

tied_ways : (v w : WayId) → v ≡ w → way_cmp v w ≡ Equal
tied_ways v w same = subst (λ u. way_cmp v u ≡ Equal) same (tied_itself way_cmp_total v)

pub index_next : (a b : PieceName) → a.way ≡ b.way → a.index < b.index → IsTrue (is_lt (name_cmp a b))
index_next a b same below = less_second (way_cmp a.way b.way) _ (tied_ways a.way b.way same)
    (less_first (nat_cmp a.index b.index) _ (below_less a.index b.index below))

pub dir_last : (w : WayId) (i : ℕ)
    → IsTrue (is_lt (name_cmp (record { way = w; index = i; dir = Forward })
    (record { way = w; index = i; dir = Backward })))
dir_last w i = less_second (way_cmp w w) _ (tied_itself way_cmp_total w)
    (less_second (nat_cmp i i) (dir_cmp Forward Backward) (tied_itself nat_cmp_total i) refl)
