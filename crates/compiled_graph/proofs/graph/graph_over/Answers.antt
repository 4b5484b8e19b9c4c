use Rattle.std.proofs.Common.{◌≡◌, ◌+◌, ◌≤◌, ◌∙◌, Result, Ok, Err, IfOk, IsTrue, List, Contains, length, sym, subst}
use Rattle.road_base.specs.Objects.{Objects}
use Rattle.road_base.specs.declared.ids.WayId.{WayId}
use Rattle.ordered_lists.specs.Orders.{rises}
use Rattle.road_model.specs.Orders.{way_cmp}
use Rattle.road_model.specs.Rules.{Rules}
use Rattle.road_model.specs.declared.blocks.Block.{Block}
use Rattle.road_model.specs.Blocks.{IsRoadBlock}
use Rattle.road_model.specs.Highways.{AreRoadWays}
use Rattle.graph_file.specs.WalkedFiles.{IsWalkedFile}
use Rattle.zone_files.specs.ZoneFileWalks.{IsZoneFile}
use Rattle.compiled_graph.proofs.Built.{whole_graph, whole_file}
use Rattle.compiled_graph.proofs.graph.graph_over.Goals as goal

each : {T E : Type 0} {A B : T → Type 0} (r : Result T E) → IfOk r A → ((x : T) → A x → B x) → IfOk r B
each (Ok x) a f = f x a
each (Err e) a f = tt

-- the ways with the key `highway` are the roads, and maybe others
road_ways : (M : Objects) (P : Rules) (ways roads : List WayId) → roads ≡ ways → IsTrue (rises way_cmp ways)
    → ((block : Block) → IsRoadBlock M P block → Contains ways block.way) → AreRoadWays M P roads
road_ways M P ways roads same up all =
    subst (AreRoadWays M P) (sym same) (record { ascending = up; all = all })

pub blocks_among-requires-clause-ascending : goal.blocks_among-requires-clause-ascending
blocks_among-requires-clause-ascending g c =
    subst (λ (l : List WayId). IsTrue (rises way_cmp l)) (sym c.as_slice-roads.ensures.value)
    c.in_ok-ways.ensures.ascending

pub returns-clause-graph : goal.returns-clause-graph
returns-clause-graph g c =
    let M = c.args.world.now in
    let P = g.P.Profile.rules c.args.profile in
    let roads = c.as_slice-roads.result.now in
    let listed = road_ways M P c.in_ok-ways.ways.items roads c.as_slice-roads.ensures.value
    c.in_ok-ways.ensures.ascending
    (λ block is. c.in_ok-ways.ensures.each block.way (c.roads_refer.ensures.blocks M block is)) in
    each c.blocks_among.result c.blocks_among.ensures.part (λ out has. whole_graph M P roads out.items listed has)

pub returns-clause-file : goal.returns-clause-file
returns-clause-file g c =
    let M = c.args.world.now in
    let P = g.P.Profile.rules c.args.profile in
    let roads = c.as_slice-roads.result.now in
    let listed = road_ways M P c.in_ok-ways.ways.items roads c.as_slice-roads.ensures.value
    c.in_ok-ways.ensures.ascending
    (λ block is. c.in_ok-ways.ensures.each block.way (c.roads_refer.ensures.blocks M block is)) in
    each c.blocks_among.result c.blocks_among.ensures.part (λ out has.
    whole_file M P (IsWalkedFile M P) roads out.items listed has (c.walked_file.ensures.walks M))

pub returns-clause-zones : goal.returns-clause-zones
returns-clause-zones g c =
    let M = c.args.world.now in
    let P = g.P.Profile.rules c.args.profile in
    let roads = c.as_slice-roads.result.now in
    let listed = road_ways M P c.in_ok-ways.ways.items roads c.as_slice-roads.ensures.value
    c.in_ok-ways.ensures.ascending
    (λ block is. c.in_ok-ways.ensures.each block.way (c.roads_refer.ensures.blocks M block is)) in
    each c.blocks_among.result c.blocks_among.ensures.part (λ out has.
    whole_file M P (IsZoneFile M P) roads out.items listed has (c.zone_file.ensures M))

pub returns-clause-built : goal.returns-clause-built
returns-clause-built g c =
    subst (λ (l : List WayId). c.blocks_among.new.steps ≤ c.args.steps.now + length l)
    (c.as_slice-roads.ensures.value ∙ c.in_ok-ways.ensures.exactly) c.blocks_among.ensures.built
