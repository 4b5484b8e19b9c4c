-- Junction positions of roads.
use Rattle.std.specs.Prelude.{ℕ, ◌<◌, ◌⊎◌, List, length, IsTrue, Contains}
use Rattle.std.specs.Ordering.{nat_cmp}
use Rattle.road_base.specs.declared.ids.WayId.{WayId}
use Rattle.road_base.specs.Objects.{Objects}
use Rattle.road_model.specs.Rules.{Rules}
use Rattle.road_model.specs.Lines.{line_of}
use Rattle.road_model.specs.Driving.{is_road}
use Rattle.road_model.specs.Pieces.{IsPlain}
use Rattle.ordered_lists.specs.Orders.{Lists}

-- the position stands on a road's line and isn't plain
pub record IsJunction (M : Objects) (P : Rules) (w : WayId) (i : ℕ) : Type 0 where
  pub road : IsTrue (is_road M P w)
  pub on_line : i < length (line_of M w)
  pub not_plain : IsPlain M P w i → ⊥

-- the junction positions of the way, ascending; each other position of a road's line is plain
pub record AreJunctions (M : Objects) (P : Rules) (w : WayId) (positions : List ℕ) : Type 0 where
  pub listed : Lists (λ i. i) nat_cmp (IsJunction M P w) positions
  pub others : (i : ℕ) → IsTrue (is_road M P w) → i < length (line_of M w) → Contains positions i ⊎ IsPlain M P w i
