use Rattle.std.proofs.Common.{Some, sym, ap, ◌∙◌}
use Rattle.std.specs.FinMap.{get}
use Rattle.std.specs.FinMap.{remove as removed}
use Rattle.road_base.specs.declared.ids.WayId.{WayId}
use Rattle.road_model.specs.declared.blocks.Block.{Block}
use Rattle.road_model.specs.Orders.{way_cmp}
use Rattle.road_model.proofs.TotalOrders.{way_cmp_total, way_cmp_exact}
use Rattle.ordered_lists.proofs.SortedMaps.{gap_of, get_gap, get_at, rises_remove, map_remove, remove_none}
use Rattle.road_model.proofs.blocks.Blocks.remove.Goals as goal

abbrev way_in : Block → WayId
way_in b = b.way

-- ---- the way has a block

pub invariant_of-self : goal.invariant_of-self
invariant_of-self c = rw c.remove.ensures.items
    (rises_remove way_in way_cmp way_cmp_total _ c.in-Ok.at c.self.invariant)

pub returns-in-Ok-clause-taken : goal.returns-in-Ok-clause-taken
returns-in-Ok-clause-taken c =
    let e = c.in-Ok.ensures in
    let v = c.as_slice.ensures.value in
    ap (λ b. Some b) c.remove.ensures.value
    ∙ sym (get_at way_in way_cmp way_cmp_total c.args.way _ c.in-Ok.at _ c.self.invariant (rw v at e.within)
    (rw v at e.found))
    ∙ ap (λ m. get m.map c.args.way) c.self.view_is

pub returns-in-Ok-clause-map : goal.returns-in-Ok-clause-map
returns-in-Ok-clause-map c =
    let e = c.in-Ok.ensures in
    let v = c.as_slice.ensures.value in
    rw c.remove.ensures.items
    (map_remove way_in way_cmp way_cmp_total way_cmp_exact c.args.way _ c.in-Ok.at c.self.invariant (rw v at e.within)
    (rw v at e.found)
    ∙ ap (λ m. removed m.map c.args.way) c.self.view_is)

-- ---- the way has none

pub returns-in-Err-clause-taken : goal.returns-in-Err-clause-taken
returns-in-Err-clause-taken c =
    let e = c.in-Err.ensures in
    sym (get_gap way_in way_cmp way_cmp_total c.args.way _ _
    (gap_of way_in way_cmp way_cmp_total _ _ _ _ c.as_slice.ensures.value e.within e.below e.behind))
    ∙ ap (λ m. get m.map c.args.way) c.self.view_is

pub returns-in-Err-clause-map : goal.returns-in-Err-clause-map
returns-in-Err-clause-map c =
    let e = c.in-Err.ensures in
    remove_none way_in way_cmp way_cmp_total way_cmp_exact _ _
    (ap (λ m. get m.map c.args.way) (sym c.self.view_is)
    ∙ get_gap way_in way_cmp way_cmp_total c.args.way _ _
    (gap_of way_in way_cmp way_cmp_total _ _ _ _ c.as_slice.ensures.value e.within e.below e.behind))
