use Rattle.std.proofs.Common.{Result, Ok, Err, OnErr, sym, ap, ◌∙◌}
use Rattle.std.specs.FinMap.{get}
use Rattle.std.specs.FinMap.{insert as inserted}
use Rattle.road_base.specs.declared.ids.WayId.{WayId}
use Rattle.road_model.specs.declared.blocks.Block.{Block}
use Rattle.road_model.specs.Orders.{way_cmp}
use Rattle.road_model.proofs.TotalOrders.{way_cmp_total}
use Rattle.ordered_lists.proofs.SortedMaps.{gap_of, rises_set, map_set, rises_insert, map_insert, get_gap}
use Rattle.road_model.proofs.blocks.Blocks.insert.Goals as goal

abbrev way_in : Block → WayId
way_in b = b.way

-- ---- the way has a block

pub invariant_of-self : goal.invariant_of-self
invariant_of-self c =
    let e = c.in-Ok.ensures in
    let v = c.as_slice.ensures.value in
    rises_set way_in way_cmp way_cmp_total c.args.block _ c.in-Ok.at c.self.invariant (rw v at e.within)
    (rw v at e.found)

pub returns-in-Ok-clause-ok : goal.returns-in-Ok-clause-ok
returns-in-Ok-clause-ok c =
    let e = c.in-Ok.ensures in
    let v = c.as_slice.ensures.value in
    map_set way_in way_cmp way_cmp_total c.args.block _ c.in-Ok.at c.self.invariant (rw v at e.within) (rw v at e.found)
    ∙ ap (λ m. inserted m.map c.args.block.way c.args.block) c.self.view_is

-- ---- the way has none

pub invariant_of-self-in-Err : goal.invariant_of-self-in-Err
invariant_of-self-in-Err c =
    let e = c.in-Err.ensures in
    rw c.in_ok-insert-in-Err.ensures.items
    (rw c.reserve.ensures.items
    (rises_insert way_in way_cmp way_cmp_total c.args.block _ c.in-Err.at c.self.invariant
    (gap_of way_in way_cmp way_cmp_total _ _ _ _ c.as_slice.ensures.value e.within e.below e.behind)))

pub returns-in_ok-insert-in-Err-clause-ok : goal.returns-in_ok-insert-in-Err-clause-ok
returns-in_ok-insert-in-Err-clause-ok c =
    let e = c.in-Err.ensures in
    rw c.in_ok-insert-in-Err.ensures.items
    (rw c.reserve.ensures.items
    (map_insert way_in way_cmp way_cmp_total c.args.block _ c.in-Err.at c.self.invariant
    (gap_of way_in way_cmp way_cmp_total _ _ _ _ c.as_slice.ensures.value e.within e.below e.behind)
    ∙ ap (λ m. inserted m.map c.args.block.way c.args.block) c.self.view_is))

on_err : {T E P : Type 0} (r : Result T E) → P → OnErr r P
on_err (Ok x) p = tt
on_err (Err y) p = p

pub returns-in_err-insert-in-Err-clause-new_way : goal.returns-in_err-insert-in-Err-clause-new_way
returns-in_err-insert-in-Err-clause-new_way c =
    let e = c.in-Err.ensures in
    on_err _ (ap (λ m. get m.map c.args.block.way) (sym c.self.view_is)
    ∙ get_gap way_in way_cmp way_cmp_total c.args.block.way _ c.in-Err.at
    (gap_of way_in way_cmp way_cmp_total _ _ _ _ c.as_slice.ensures.value e.within e.below e.behind))

pub returns-in_err-reserve-in-Err-clause-new_way : goal.returns-in_err-reserve-in-Err-clause-new_way
returns-in_err-reserve-in-Err-clause-new_way c =
    let e = c.in-Err.ensures in
    on_err _ (ap (λ m. get m.map c.args.block.way) (sym c.self.view_is)
    ∙ get_gap way_in way_cmp way_cmp_total c.args.block.way _ c.in-Err.at
    (gap_of way_in way_cmp way_cmp_total _ _ _ _ c.as_slice.ensures.value e.within e.below e.behind))
