-- Cells that cover the world.
use Rattle.std.proofs.Common.{◌≡◌, ℕ, zero, suc, Bool, List, [], ◌∷◌, map, IsTrue, Some, refl}
use Rattle.std.proofs.Common.{slice_get, sym, subst}
use Rattle.ordered_lists.proofs.ListMembers.{contains_map}
use Rattle.road_base.specs.declared.location.Location.{Location}
use Rattle.map_cells.specs.declared.area.Area.{Area}
use Rattle.map_cells.specs.Areas.{is_in, CoverWorld}
use Rattle.cell_plan.specs.declared.cells.PlannedCell.{PlannedCell}
use Rattle.cell_plan.specs.Dividing.{Covers}

-- what stands at a place of a list mapped
map_at : (cells : List PlannedCell) (i : ℕ) (a : Area) → slice_get (map (λ (c : PlannedCell). c.cell) cells) i ≡ Some a
    → (c : PlannedCell) × (slice_get cells i ≡ Some c) × (c.cell ≡ a)
map_at [] i a h = cc
map_at (c ∷ cells) zero a h = (c, refl, cc)
map_at (c ∷ cells) (suc i) a h = map_at cells i a h

-- cells that cover a part which is the whole cover the world
pub covers_world : (part : Location → Bool) (cells : List PlannedCell) → ((p : Location) → IsTrue (part p))
    → Covers part cells → CoverWorld (map (λ (c : PlannedCell). c.cell) cells)
covers_world part cells whole covers = record {
  all = λ p.
      let r = covers.all p (whole p) in
      ((r.0).cell, contains_map (λ (c : PlannedCell). c.cell) cells r.0 r.1, r.2);
  apart = λ i j a b less at next.
      let c = map_at cells i a at in
      let d = map_at cells j b next in
      let apart = covers.apart i j c.0 d.0 less c.1 d.1 in
      λ p h k. apart p (subst (λ (v : Area). IsTrue (is_in v p)) (sym c.2) h)
      (subst (λ (v : Area). IsTrue (is_in v p)) (sym d.2) k);
}
