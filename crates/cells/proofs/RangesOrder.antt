-- What is at most, and what is below what, among numbers of ways.
use Rattle.std.proofs.Common.{◌≡◌, ◌⊎◌, inl, inr, IsTrue, Ordering, refl, sym, subst}
use Rattle.std.specs.declared.cmp.Ordering.TheVariants.{Less, Equal, Greater}
use Rattle.std.specs.Ordering.{is_lt, is_le}
use Rattle.road_base.specs.declared.ids.WayId.{WayId}
use Rattle.ordered_lists.proofs.Comparisons.{over, below_upto}
use Rattle.road_model.specs.Orders.{way_cmp}
use Rattle.road_model.proofs.TotalOrders.{way_cmp_total, way_cmp_exact}

abbrev pub IsUpto : WayId → WayId → Type 0
IsUpto a b = IsTrue (is_le (way_cmp a b))

abbrev pub IsBelow : WayId → WayId → Type 0
IsBelow a b = IsTrue (is_lt (way_cmp a b))

upto_parts : (r : Ordering) → IsTrue (is_le r) → IsTrue (is_lt r) ⊎ (r ≡ Equal)
upto_parts Less h = inl refl
upto_parts Equal h = inr refl
upto_parts Greater h = cc

upto_cases : (a b : WayId) → IsUpto a b → IsBelow a b ⊎ (a ≡ b)
upto_cases a b h = elim (upto_parts (way_cmp a b) h) [ inl l ↦ inl l | inr e ↦ inr (way_cmp_exact a b e) ]

pub below_upto_end : (a b c : WayId) → IsBelow a b → IsUpto b c → IsBelow a c
below_upto_end a b c h k = elim (upto_cases b c k)
    [ inl l ↦ over way_cmp way_cmp_total a b c h l | inr e ↦ subst (IsBelow a) e h ]

pub upto_below : (a b c : WayId) → IsUpto a b → IsBelow b c → IsBelow a c
upto_below a b c h k = elim (upto_cases a b h)
    [ inl l ↦ over way_cmp way_cmp_total a b c l k | inr e ↦ subst (λ x. IsBelow x c) (sym e) k ]

pub upto_upto : (a b c : WayId) → IsUpto a b → IsUpto b c → IsUpto a c
upto_upto a b c h k = elim (upto_cases a b h) [
  | inl l ↦ below_upto (way_cmp a c) (below_upto_end a b c l k)
  | inr e ↦ subst (λ x. IsUpto x c) (sym e) k
]
