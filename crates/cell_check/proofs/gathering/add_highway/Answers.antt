use Rattle.std.proofs.Common.{◌∷◌, [], ◌++◌, List, map, refl, sym, ap, ◌∙◌}
use Rattle.std.proofs.lemmas.Result.{on_ok_weaker}
use Rattle.road_base.specs.declared.ids.WayId.{WayId}
use Rattle.road_base.specs.declared.ids.Key.TheVariants.{Node as NodeKey, Way as WayKey}
use Rattle.cell_check.specs.Candidates.{names_of_highway}
use Rattle.cell_check.proofs.ClosedKeys.{inner_where}
use Rattle.cell_check.proofs.OpenedKeys.{adds_both, adds_if}
use Rattle.cell_check.proofs.OwnedEntries.{owned_where}
use Rattle.cell_check.proofs.gathering.add_highway.Goals as goal

pub returns-clause-open : goal.returns-clause-open
returns-clause-open g c =
    let M = g.M.World.objects c.args.world.now in
    let area = c.args.area.now in
    let w = c.args.way in
    let nodes = c.args.nodes.now in
    let b = c.in_ok-is_closed.is_closed in
    let between = c.add_open_nodes.new.starts.items in
    on_ok_weaker c.add_if-2.result
    (λ own highway. adds_both M area (map (λ n. NodeKey n) nodes) (WayKey w ∷ []) (names_of_highway w nodes)
    c.args.found.now.starts.items between c.add_if.new.list.items refl c.in_ok-is_closed.ensures.open
    (adds_if M area b (WayKey w) between c.add_if.new.list.items
    (inner_where M area w highway.body nodes b (sym highway.is) highway.nodes_are c.in_ok-is_closed.ensures.closed)
    c.in_ok-add_if.ensures)) c.add_if-2.ensures

pub returns-clause-own : goal.returns-clause-own
returns-clause-own g c =
    on_ok_weaker c.add_if-2.result
    (λ own highway. own ∙ ap (λ (l : List WayId). c.args.found.now.own.items ++ l)
    (owned_where (g.M.World.objects c.args.world.now) c.args.cell.now c.args.way c.args.nodes.now highway
    c.begins_in.result c.begins_in.ensures)) c.add_if-2.ensures
