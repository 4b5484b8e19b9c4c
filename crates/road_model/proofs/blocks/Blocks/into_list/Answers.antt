use Rattle.std.proofs.Common.{◌≡◌, ◌↔◌, Contains, Some, sym, ap, subst, ◌∙◌}
use Rattle.std.specs.FinMap.{get, entries}
use Rattle.road_base.specs.declared.ids.WayId.{WayId}
use Rattle.road_model.specs.declared.blocks.Block.{Block}
use Rattle.road_model.specs.Orders.{way_cmp}
use Rattle.road_model.proofs.TotalOrders.{way_cmp_total}
use Rattle.ordered_lists.proofs.SortedMaps.{entries_of, get_member, member_of_get}
use Rattle.road_model.proofs.blocks.Blocks.into_list.Goals as goal

pub returns-clause-entries : goal.returns-clause-entries
returns-clause-entries c =
    ap (λ v. entries v.map) (sym c.self.view_is)
    ∙ entries_of (λ (b : Block). b.way) way_cmp way_cmp_total c.self.inside.list.items c.self.invariant

pub returns-clause-each : goal.returns-clause-each
returns-clause-each c =
    let way_in : Block → WayId = λ b. b.way in
    let list = c.self.inside.list.items in
    subst (λ v. (b : Block) → Contains list b ↔ (get v.map b.way ≡ Some b)) c.self.view_is
    (λ b. (
      get_member way_in way_cmp way_cmp_total b list c.self.invariant,
      member_of_get way_in way_cmp way_cmp_total
          b.way b list,
    ))
