use Rattle.std.proofs.Common.{◌≡◌, [], sym, ap, ◌∙◌}
use Rattle.std.specs.FinMap.{find, get-from_entries}
use Rattle.road_base.specs.declared.ids.WayId.{WayId}
use Rattle.road_model.specs.Orders.{way_cmp}
use Rattle.layered_maps.specs.Maps.{changed_by}
use Rattle.graph_blocks.specs.Lent.{map_of}
use Rattle.change_apply.specs.Rebuilding.{block_at, over, way_of}
use Rattle.change_apply.proofs.FreshBlocks.{over_empty}
use Rattle.change_apply.proofs.ChangedBlocks.{at_fresh, with_fresh_as}
use Rattle.change_apply.proofs.changes.changes_of.Goals as goal

pub returns-clause-leaves : goal.returns-clause-leaves
returns-clause-leaves c = λ w.
    let pairs = c.args.blocks.now in
    let listed = map_of pairs in
    let near = c.args.rebuilt.near.map in
    let later = c.args.rebuilt.later.map in
    let none : over c.new-none.result.map [] ≡ [] = over_empty c.new-none.result.map [] c.new-none.ensures in
    let first = changed_by way_of way_cmp c.in_ok-near.near.items pairs in
    let stands : (v : WayId) → find way_cmp v pairs ≡ block_at [] listed v =
    λ v. sym (get-from_entries c.name_order.ensures.ways pairs v) in
    let before : (v : WayId) → find way_cmp v pairs ≡ block_at (over c.new-none.result.map []) listed v =
    λ v. stands v ∙ sym (ap (λ l. block_at l listed v) none) in
    let behind : (v : WayId) → find way_cmp v first ≡ block_at (over near []) listed v =
    λ v. c.in_ok-near.ensures.leaves pairs before v
    ∙ with_fresh_as near (λ u. find way_cmp u pairs) (block_at [] listed) v (stands v) ∙ at_fresh near [] listed v in
    c.in_ok-later.ensures.leaves first behind w
    ∙ with_fresh_as later (λ u. find way_cmp u first) (block_at (over near []) listed) w (behind w)
    ∙ at_fresh later (over near []) listed w
