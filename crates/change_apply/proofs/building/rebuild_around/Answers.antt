use Rattle.std.proofs.Common.{◌≡◌, ◌⊎◌, inl, List, [], ◌++◌, Contains, IsTrue, length, ap, subst, sym, ◌∙◌, arith}
use Rattle.road_base.specs.declared.ids.WayId.{WayId}
use Rattle.road_model.specs.declared.blocks.Block.{Block}
use Rattle.ordered_lists.specs.Orders.{rises}
use Rattle.road_model.specs.Orders.{way_cmp}
use Rattle.way_pieces.specs.Known.{AreKnown}
use Rattle.touched_ways.specs.Altering.{ListSameArcs}
use Rattle.touched_ways.proofs.WayLists.{same}
use Rattle.graph_blocks.specs.Lent.{map_of}
use Rattle.change_apply.specs.Rebuilding.{AreMet, AreRebuilt, over, pieces_at}
use Rattle.change_apply.specs.Sourcing.{IsLedFrom}
use Rattle.change_apply.specs.Standing.{newest_but}
use Rattle.change_apply.proofs.FewBuilt.{few_led, few_met, few_near}
use Rattle.change_apply.proofs.FreshBlocks.{over_empty}
use Rattle.change_apply.proofs.AlteredBlocks.{kept_after}
use Rattle.change_apply.proofs.KnownBlocks.{known_before, known_between}
use Rattle.change_apply.proofs.SourcedBlocks.{joined_built}
use Rattle.change_apply.proofs.building.rebuild_around.Goals as goal

pub rebuild-requires : goal.rebuild-requires
rebuild-requires g c =
    let M = c.args.network.now.world.now in
    let N = g.M.World.objects c.args.next.now in
    let P = g.P.Profile.rules c.args.network.now.profile in
    let close = c.args.close.now in
    let listed = map_of c.args.blocks.now in
    subst (λ (l : List (WayId × Block)). AreKnown N P (newest_but close l listed))
    (sym (over_empty c.new-none.result.map [] c.new-none.ensures))
    (known_before M N P close listed c.name_order.ensures.ways (c.far_blocks_list_pieces.ensures M N)
    (λ w not change. not (c.requires.close.complete w change)) c.requires.kept)

pub rebuild-requires-2 : goal.rebuild-requires-2
rebuild-requires-2 g c =
    let M = c.args.network.now.world.now in
    let N = g.M.World.objects c.args.next.now in
    let P = g.P.Profile.rules c.args.network.now.profile in
    let close = c.args.close.now in
    let listed = map_of c.args.blocks.now in
    let near = c.in_ok-near_ways.near_ways in
    let near_are = c.in_ok-near_ways.ensures in
    let first = over c.in_ok-near.near.map [] in
    let near_built : AreRebuilt N P near [] first =
    subst (λ l. AreRebuilt N P l [] first) c.items-near_list.ensures (c.in_ok-near.ensures.rebuilt []) in
    subst (λ (l : List WayId). AreKnown N P (newest_but l first listed))
    (sym (c.from_list-no_ways.ensures ∙ c.new.ensures.items))
    (known_between M N P near listed c.name_order.ensures.ways (c.far_blocks_list_pieces.ensures M N)
    (λ w not change. not (near_are.complete w (inl (c.requires.close.complete w change)))) c.requires.kept first
    c.name_order.ensures.way_ties (c.block_lists_pieces.ensures N) near_built)

pub rebuild-requires-3 : goal.rebuild-requires-3
rebuild-requires-3 g c =
    let M = c.args.network.now.world.now in
    let N = g.M.World.objects c.args.next.now in
    let P = g.P.Profile.rules c.args.network.now.profile in
    let close = c.args.close.now in
    let listed = map_of c.args.blocks.now in
    let near = c.in_ok-near_ways.near_ways in
    let near_are = c.in_ok-near_ways.ensures in
    let first = over c.in_ok-near.near.map [] in
    let near_built : AreRebuilt N P near [] first =
    subst (λ l. AreRebuilt N P l [] first) c.items-near_list.ensures (c.in_ok-near.ensures.rebuilt []) in
    subst (λ (l : List WayId). AreKnown N P (newest_but l first listed))
    (sym (c.from_list-no_ways.ensures ∙ c.new.ensures.items))
    (known_between M N P near listed c.name_order.ensures.ways (c.far_blocks_list_pieces.ensures M N)
    (λ w not change. not (near_are.complete w (inl (c.requires.close.complete w change)))) c.requires.kept first
    c.name_order.ensures.way_ties (c.block_lists_pieces.ensures N) near_built)

pub met_by-requires : goal.met_by-requires
met_by-requires g c =
    subst (λ (l : List WayId). IsTrue (rises way_cmp l)) (same c.in_ok-near_ways.near_ways)
    c.in_ok-near_ways.ensures.ascending

pub led_to-requires-clause-near_ways : goal.led_to-requires-clause-near_ways
led_to-requires-clause-near_ways g c =
    subst (λ (l : List WayId). IsTrue (rises way_cmp l)) (same c.in_ok-near_ways.near_ways)
    c.in_ok-near_ways.ensures.ascending

pub led_to-requires-clause-met_ways : goal.led_to-requires-clause-met_ways
led_to-requires-clause-met_ways g c =
    subst (λ (l : List WayId). IsTrue (rises way_cmp l)) (same c.in_ok-met_ways.met_ways)
    c.in_ok-met_ways.ensures.exactly.ascending

pub returns-in_err-near-clause-few : goal.returns-in_err-near-clause-few
returns-in_err-near-clause-few g c =
    λ touched all.
    let total = c.name_order.ensures.ways in
    let M = c.args.network.now.world.now in
    let N = g.M.World.objects c.args.next.now in
    let P = g.P.Profile.rules c.args.network.now.profile in
    let close = c.args.close.now in
    let listed = map_of c.args.blocks.now in
    let near = c.in_ok-near_ways.near_ways in
    let near_are = c.in_ok-near_ways.ensures in
    let long : length c.items-near_list.result.now ≡ length near = ap length c.items-near_list.ensures in
    let most = few_near M N P close near [] [] [] [] [] listed total (c.has_block.ensures M)
    (c.near_ways_are_touched.ensures M N) (c.led_ways_are_touched.ensures M N) c.requires.close near_are
    c.requires.kept touched all in
    let one = c.rebuild.ensures.few in
    omega arith

pub returns-in_err-met_ways-clause-few : goal.returns-in_err-met_ways-clause-few
returns-in_err-met_ways-clause-few g c =
    λ touched all.
    let total = c.name_order.ensures.ways in
    let M = c.args.network.now.world.now in
    let N = g.M.World.objects c.args.next.now in
    let P = g.P.Profile.rules c.args.network.now.profile in
    let close = c.args.close.now in
    let listed = map_of c.args.blocks.now in
    let near = c.in_ok-near_ways.near_ways in
    let near_are = c.in_ok-near_ways.ensures in
    let long : length c.items-near_list.result.now ≡ length near = ap length c.items-near_list.ensures in
    let most = few_near M N P close near [] [] [] [] [] listed total (c.has_block.ensures M)
    (c.near_ways_are_touched.ensures M N) (c.led_ways_are_touched.ensures M N) c.requires.close near_are
    c.requires.kept touched all in
    let one = c.in_ok-near.ensures.each in
    omega arith

pub returns-in_err-met-clause-few : goal.returns-in_err-met-clause-few
returns-in_err-met-clause-few g c =
    λ touched all.
    let total = c.name_order.ensures.ways in
    let M = c.args.network.now.world.now in
    let N = g.M.World.objects c.args.next.now in
    let P = g.P.Profile.rules c.args.network.now.profile in
    let close = c.args.close.now in
    let listed = map_of c.args.blocks.now in
    let near = c.in_ok-near_ways.near_ways in
    let near_are = c.in_ok-near_ways.ensures in
    let first = over c.in_ok-near.near.map [] in
    let near_built : AreRebuilt N P near [] first =
    subst (λ l. AreRebuilt N P l [] first) c.items-near_list.ensures (c.in_ok-near.ensures.rebuilt []) in
    let none : over c.new-none.result.map [] ≡ [] = over_empty c.new-none.result.map [] c.new-none.ensures in
    let met = c.in_ok-met_ways.met_ways in
    let met_are : AreMet N (pieces_at [] listed) (pieces_at first listed) close near met =
    subst (λ l. AreMet N (pieces_at l listed) (pieces_at first listed) close near met) none c.in_ok-met_ways.ensures in
    let long : length c.items-near_list.result.now ≡ length near = ap length c.items-near_list.ensures in
    let longer : length c.items-met_list.result.now ≡ length met = ap length c.items-met_list.ensures in
    let one = c.in_ok-near.ensures.each in
    let most = few_met M N P close near met [] [] first [] listed total (c.has_block.ensures M)
    (c.near_ways_are_touched.ensures M N) (c.led_ways_are_touched.ensures M N) c.requires.close near_are
    c.requires.kept touched all met_are in
    let two = c.rebuild-2.ensures.few in
    omega arith

pub returns-in_err-led_ways-clause-few : goal.returns-in_err-led_ways-clause-few
returns-in_err-led_ways-clause-few g c =
    λ touched all.
    let total = c.name_order.ensures.ways in
    let M = c.args.network.now.world.now in
    let N = g.M.World.objects c.args.next.now in
    let P = g.P.Profile.rules c.args.network.now.profile in
    let close = c.args.close.now in
    let listed = map_of c.args.blocks.now in
    let near = c.in_ok-near_ways.near_ways in
    let near_are = c.in_ok-near_ways.ensures in
    let first = over c.in_ok-near.near.map [] in
    let near_built : AreRebuilt N P near [] first =
    subst (λ l. AreRebuilt N P l [] first) c.items-near_list.ensures (c.in_ok-near.ensures.rebuilt []) in
    let none : over c.new-none.result.map [] ≡ [] = over_empty c.new-none.result.map [] c.new-none.ensures in
    let met = c.in_ok-met_ways.met_ways in
    let met_are : AreMet N (pieces_at [] listed) (pieces_at first listed) close near met =
    subst (λ l. AreMet N (pieces_at l listed) (pieces_at first listed) close near met) none c.in_ok-met_ways.ensures in
    let long : length c.items-near_list.result.now ≡ length near = ap length c.items-near_list.ensures in
    let longer : length c.items-met_list.result.now ≡ length met = ap length c.items-met_list.ensures in
    let one = c.in_ok-near.ensures.each in
    let two = c.in_ok-met.ensures.each in
    let most = few_met M N P close near met [] [] first [] listed total (c.has_block.ensures M)
    (c.near_ways_are_touched.ensures M N) (c.led_ways_are_touched.ensures M N) c.requires.close near_are
    c.requires.kept touched all met_are in
    omega arith

pub returns-in_err-led-clause-few : goal.returns-in_err-led-clause-few
returns-in_err-led-clause-few g c =
    λ touched all.
    let total = c.name_order.ensures.ways in
    let M = c.args.network.now.world.now in
    let N = g.M.World.objects c.args.next.now in
    let P = g.P.Profile.rules c.args.network.now.profile in
    let close = c.args.close.now in
    let listed = map_of c.args.blocks.now in
    let near = c.in_ok-near_ways.near_ways in
    let near_are = c.in_ok-near_ways.ensures in
    let first = over c.in_ok-near.near.map [] in
    let near_built : AreRebuilt N P near [] first =
    subst (λ l. AreRebuilt N P l [] first) c.items-near_list.ensures (c.in_ok-near.ensures.rebuilt []) in
    let none : over c.new-none.result.map [] ≡ [] = over_empty c.new-none.result.map [] c.new-none.ensures in
    let met = c.in_ok-met_ways.met_ways in
    let met_are : AreMet N (pieces_at [] listed) (pieces_at first listed) close near met =
    subst (λ l. AreMet N (pieces_at l listed) (pieces_at first listed) close near met) none c.in_ok-met_ways.ensures in
    let second = over c.in_ok-met.met.map [] in
    let met_built : AreRebuilt N P met [] second =
    subst (λ l. AreRebuilt N P l [] second) c.items-met_list.ensures (c.in_ok-met.ensures.rebuilt []) in
    let led = c.in_ok-led_ways.led_ways in
    let only : (w : WayId) → Contains led w → IsLedFrom (pieces_at [] listed) (pieces_at first listed) near w
    ⊎ IsLedFrom (pieces_at [] listed) (pieces_at second listed) met w =
    subst (λ l. (w : WayId) → Contains led w → IsLedFrom (pieces_at l listed) (pieces_at first listed) near w
    ⊎ IsLedFrom (pieces_at l listed) (pieces_at second listed) met w) none c.in_ok-led_ways.ensures.only in
    let long : length c.items-near_list.result.now ≡ length near = ap length c.items-near_list.ensures in
    let longer : length c.items-met_list.result.now ≡ length met = ap length c.items-met_list.ensures in
    let longest : length c.items-led_list.result.now ≡ length led = ap length c.items-led_list.ensures in
    let one = c.in_ok-near.ensures.each in
    let two = c.in_ok-met.ensures.each in
    let most = few_led M N P close near met led [] first second listed total (c.has_block.ensures M)
    (c.near_ways_are_touched.ensures M N) (c.led_ways_are_touched.ensures M N) c.requires.close near_are
    c.requires.kept touched all
    met_are near_built met_built c.in_ok-led_ways.ensures.ascending c.in_ok-led_ways.ensures.apart only in
    let three = c.rebuild-3.ensures.few in
    omega arith

pub returns-in_err-later-clause-few : goal.returns-in_err-later-clause-few
returns-in_err-later-clause-few g c =
    λ touched all.
    let total = c.name_order.ensures.ways in
    let M = c.args.network.now.world.now in
    let N = g.M.World.objects c.args.next.now in
    let P = g.P.Profile.rules c.args.network.now.profile in
    let close = c.args.close.now in
    let listed = map_of c.args.blocks.now in
    let near = c.in_ok-near_ways.near_ways in
    let near_are = c.in_ok-near_ways.ensures in
    let first = over c.in_ok-near.near.map [] in
    let near_built : AreRebuilt N P near [] first =
    subst (λ l. AreRebuilt N P l [] first) c.items-near_list.ensures (c.in_ok-near.ensures.rebuilt []) in
    let none : over c.new-none.result.map [] ≡ [] = over_empty c.new-none.result.map [] c.new-none.ensures in
    let met = c.in_ok-met_ways.met_ways in
    let met_are : AreMet N (pieces_at [] listed) (pieces_at first listed) close near met =
    subst (λ l. AreMet N (pieces_at l listed) (pieces_at first listed) close near met) none c.in_ok-met_ways.ensures in
    let second = over c.in_ok-met.met.map [] in
    let met_built : AreRebuilt N P met [] second =
    subst (λ l. AreRebuilt N P l [] second) c.items-met_list.ensures (c.in_ok-met.ensures.rebuilt []) in
    let led = c.in_ok-led_ways.led_ways in
    let only : (w : WayId) → Contains led w → IsLedFrom (pieces_at [] listed) (pieces_at first listed) near w
    ⊎ IsLedFrom (pieces_at [] listed) (pieces_at second listed) met w =
    subst (λ l. (w : WayId) → Contains led w → IsLedFrom (pieces_at l listed) (pieces_at first listed) near w
    ⊎ IsLedFrom (pieces_at l listed) (pieces_at second listed) met w) none c.in_ok-led_ways.ensures.only in
    let long : length c.items-near_list.result.now ≡ length near = ap length c.items-near_list.ensures in
    let longer : length c.items-met_list.result.now ≡ length met = ap length c.items-met_list.ensures in
    let longest : length c.items-led_list.result.now ≡ length led = ap length c.items-led_list.ensures in
    let one = c.in_ok-near.ensures.each in
    let two = c.in_ok-met.ensures.each in
    let three = c.in_ok-led.ensures.each in
    let most = few_led M N P close near met led [] first second listed total (c.has_block.ensures M)
    (c.near_ways_are_touched.ensures M N) (c.led_ways_are_touched.ensures M N) c.requires.close near_are
    c.requires.kept touched all
    met_are near_built met_built c.in_ok-led_ways.ensures.ascending c.in_ok-led_ways.ensures.apart only in
    omega arith

pub returns-clause-few : goal.returns-clause-few
returns-clause-few g c =
    λ touched all.
    let total = c.name_order.ensures.ways in
    let M = c.args.network.now.world.now in
    let N = g.M.World.objects c.args.next.now in
    let P = g.P.Profile.rules c.args.network.now.profile in
    let close = c.args.close.now in
    let listed = map_of c.args.blocks.now in
    let near = c.in_ok-near_ways.near_ways in
    let near_are = c.in_ok-near_ways.ensures in
    let first = over c.in_ok-near.near.map [] in
    let near_built : AreRebuilt N P near [] first =
    subst (λ l. AreRebuilt N P l [] first) c.items-near_list.ensures (c.in_ok-near.ensures.rebuilt []) in
    let none : over c.new-none.result.map [] ≡ [] = over_empty c.new-none.result.map [] c.new-none.ensures in
    let met = c.in_ok-met_ways.met_ways in
    let met_are : AreMet N (pieces_at [] listed) (pieces_at first listed) close near met =
    subst (λ l. AreMet N (pieces_at l listed) (pieces_at first listed) close near met) none c.in_ok-met_ways.ensures in
    let second = over c.in_ok-met.met.map [] in
    let met_built : AreRebuilt N P met [] second =
    subst (λ l. AreRebuilt N P l [] second) c.items-met_list.ensures (c.in_ok-met.ensures.rebuilt []) in
    let led = c.in_ok-led_ways.led_ways in
    let only : (w : WayId) → Contains led w → IsLedFrom (pieces_at [] listed) (pieces_at first listed) near w
    ⊎ IsLedFrom (pieces_at [] listed) (pieces_at second listed) met w =
    subst (λ l. (w : WayId) → Contains led w → IsLedFrom (pieces_at l listed) (pieces_at first listed) near w
    ⊎ IsLedFrom (pieces_at l listed) (pieces_at second listed) met w) none c.in_ok-led_ways.ensures.only in
    let long : length c.items-near_list.result.now ≡ length near = ap length c.items-near_list.ensures in
    let longer : length c.items-met_list.result.now ≡ length met = ap length c.items-met_list.ensures in
    let longest : length c.items-led_list.result.now ≡ length led = ap length c.items-led_list.ensures in
    let one = c.in_ok-near.ensures.each in
    let two = c.in_ok-met.ensures.each in
    let three = c.in_ok-led.ensures.each in
    let most = few_led M N P close near met led [] first second listed total (c.has_block.ensures M)
    (c.near_ways_are_touched.ensures M N) (c.led_ways_are_touched.ensures M N) c.requires.close near_are
    c.requires.kept touched all
    met_are near_built met_built c.in_ok-led_ways.ensures.ascending c.in_ok-led_ways.ensures.apart only in
    omega arith

pub returns-clause-kept : goal.returns-clause-kept
returns-clause-kept g c =
    let total = c.name_order.ensures.ways in
    let ties = c.name_order.ensures.way_ties in
    let M = c.args.network.now.world.now in
    let N = g.M.World.objects c.args.next.now in
    let P = g.P.Profile.rules c.args.network.now.profile in
    let close = c.args.close.now in
    let listed = map_of c.args.blocks.now in
    let near = c.in_ok-near_ways.near_ways in
    let near_are = c.in_ok-near_ways.ensures in
    let first = over c.in_ok-near.near.map [] in
    let near_built : AreRebuilt N P near [] first =
    subst (λ l. AreRebuilt N P l [] first) c.items-near_list.ensures (c.in_ok-near.ensures.rebuilt []) in
    let none : over c.new-none.result.map [] ≡ [] = over_empty c.new-none.result.map [] c.new-none.ensures in
    let met = c.in_ok-met_ways.met_ways in
    let met_are : AreMet N (pieces_at [] listed) (pieces_at first listed) close near met =
    subst (λ l. AreMet N (pieces_at l listed) (pieces_at first listed) close near met) none c.in_ok-met_ways.ensures in
    let second = over c.in_ok-met.met.map [] in
    let met_built : AreRebuilt N P met [] second =
    subst (λ l. AreRebuilt N P l [] second) c.items-met_list.ensures (c.in_ok-met.ensures.rebuilt []) in
    let led = c.in_ok-led_ways.led_ways in
    let added = over c.in_ok-led.led.map [] in
    let last = over c.in_ok-later.later.map first in
    let led_built : AreRebuilt N P led [] added =
    subst (λ l. AreRebuilt N P l [] added) c.items-led_list.ensures (c.in_ok-led.ensures.rebuilt []) in
    let later : AreRebuilt N P (met ++ led) first last =
    joined_built total ties N P met led c.in_ok-met.met.map c.in_ok-led.led.map c.in_ok-later.later.map first met_built
    led_built c.in_ok-later.ensures.sound c.in_ok-later.ensures.complete in
    kept_after M N P close near met led [] first second last listed total ties (c.one_block.ensures N)
    (c.has_block.ensures M) (c.unaltered_blocks_stay.ensures M N) (c.led_blocks_stay.ensures M N)
    (c.far_pieces_stay.ensures M N) (c.listed_pieces_stay.ensures M N) c.requires.close near_are met_are
    (λ v w has notled notnear notmet.
    subst (λ l. ListSameArcs w (pieces_at l listed v) (pieces_at first listed v)) none
    (c.in_ok-led_ways.ensures.near v w has notled notnear notmet))
    (λ v w has notled notnear notmet.
    subst (λ l. ListSameArcs w (pieces_at l listed v) (pieces_at second listed v)) none
    (c.in_ok-led_ways.ensures.met v w has notled notnear notmet))
    near_built met_built later c.requires.kept
