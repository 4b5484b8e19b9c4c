use Rattle.std.proofs.Common.{Some, slice_index_or, sym, ap, ◌∙◌}
use Rattle.std.specs.FinMap.{get}
use Rattle.road_base.specs.declared.ids.WayId.{WayId}
use Rattle.road_model.specs.declared.blocks.Block.{Block}
use Rattle.road_model.proofs.TotalOrders.{way_cmp_total}
use Rattle.road_model.specs.Orders.{way_cmp}
use Rattle.ordered_lists.proofs.SortedMaps.{gap_of, get_gap, get_at}
use Rattle.road_model.proofs.blocks.Blocks.get.Goals as goal

abbrev way_in : Block → WayId
way_in b = b.way

pub returns-in-Ok : goal.returns-in-Ok
returns-in-Ok c =
    let e = c.in-Ok.ensures in
    let v = c.as_slice-list.ensures.value in
    ap (λ b. Some b) (c.index-list-at.is ∙ ap (λ l. slice_index_or l c.in-Ok.at c.index-list-at.result) v)
    ∙ sym (get_at way_in way_cmp way_cmp_total c.args.way _ c.in-Ok.at _ c.self.invariant (rw v at e.within)
    (rw v at e.found))
    ∙ ap (λ m. get m.map c.args.way) c.self.view_is

pub returns-in-Err : goal.returns-in-Err
returns-in-Err c =
    let e = c.in-Err.ensures in
    sym (get_gap way_in way_cmp way_cmp_total c.args.way _ _
    (gap_of way_in way_cmp way_cmp_total _ _ _ _ c.as_slice-list.ensures.value e.within e.below e.behind))
    ∙ ap (λ m. get m.map c.args.way) c.self.view_is
