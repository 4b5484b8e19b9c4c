use Rattle.std.proofs.Common.{◌≡◌, false, refl, sym, ◌∙◌, rules, Ordering}
use Rattle.std.specs.declared.cmp.Ordering.TheVariants.{Less, Equal, Greater}
use Rattle.std.specs.Ordering.{is_ge}
use Rattle.std.proofs.lemmas.List.Sorted.{answers_always}
use Rattle.road_base.specs.declared.ids.WayId.{WayId}
use Rattle.road_model.specs.declared.blocks.Block.{Block}
use Rattle.road_model.specs.Orders.{way_cmp}
use Rattle.road_model.proofs.TotalOrders.{way_cmp_total, way_cmp_exact}
use Rattle.ordered_lists.proofs.SortedMaps.{search_found, search_below, search_behind, below_last}
use Rattle.road_model.proofs.block_search.find_way.Goals as goal

abbrev way_in : Block → WayId
way_in b = b.way

not_ge : (r : Ordering) → is_ge r ≡ false → r ≡ Less
not_ge Less e = refl
not_ge Equal e = cc
not_ge Greater e = cc

pub returns-in-Some-clause-found : goal.returns-in-Some-clause-found
returns-in-Some-clause-found c =
    search_found way_in way_cmp way_cmp_total way_cmp_exact _ _ _
    (c.binary_search_by_key.ensures.position way_in (answers_always _ _ _ (λ f a r g called. search rules)))

pub returns-in-Some-clause-below : goal.returns-in-Some-clause-below
returns-in-Some-clause-below c =
    search_below way_in way_cmp way_cmp_total _ _ _ c.requires
    (c.binary_search_by_key.ensures.position way_in (answers_always _ _ _ (λ f a r g called. search rules)))

pub returns-in-Some-clause-behind : goal.returns-in-Some-clause-behind
returns-in-Some-clause-behind c =
    search_behind way_in way_cmp way_cmp_total _ _ _ c.requires
    (c.binary_search_by_key.ensures.position way_in (answers_always _ _ _ (λ f a r g called. search rules)))

-- the last block's way isn't at or above the way
pub returns-in_default-clause-below : goal.returns-in_default-clause-below
returns-in_default-clause-below c =
    let e = c.in-Some.ensures in
    below_last way_in way_cmp way_cmp_total _ _ c.in-Some.last.now c.requires e.item.3.0 (sym e.value)
    (not_ge _ (sym c.ge.ensures ∙ c.if-ge.false))
