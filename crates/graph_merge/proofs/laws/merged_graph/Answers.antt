use Rattle.std.proofs.Common.{refl}
use Rattle.std.proofs.Common.{◌↔◌, List}
use Rattle.road_base.specs.Objects.{Objects}
use Rattle.road_model.specs.declared.blocks.Block.{Block}
use Rattle.road_model.specs.Rules.{Rules}
use Rattle.road_model.specs.Blocks.{IsRoadBlock}
use Rattle.road_model.specs.Orders.{way_cmp}
use Rattle.ordered_lists.specs.Orders.{Lists}
use Rattle.graph_merge.specs.Merging.{StandsIn, IsMerge}
use Rattle.graph_merge.proofs.laws.merged_graph.Goals as goal

-- the blocks of all files are those of the roads
road_list : (M : Objects) (P : Rules) (files : List (List Block)) (blocks : List Block)
    → ((b : Block) → StandsIn files b ↔ IsRoadBlock M P b) → IsMerge files blocks
    → Lists (λ b. b.way) way_cmp (IsRoadBlock M P) blocks
road_list M P files blocks each merge = record {
  ascending = merge.listed.ascending;
  sound = λ b i. (each b).0 (merge.listed.sound b i);
  complete = λ b road. merge.listed.complete b ((each b).1 road);
}

pub returns-clause-graph : goal.returns-clause-graph
returns-clause-graph g c = λ M files blocks each merge. record {
  blocks = blocks;
  listed = road_list M (g.P.Profile.rules c.args.profile.now) files blocks each merge;
  spelled = refl;
}

pub returns-clause-walks : goal.returns-clause-walks
returns-clause-walks g c = λ M files blocks bytes each merge file.
    c.walked_file.ensures.walks M bytes blocks
    (road_list M (g.P.Profile.rules c.args.profile.now) files blocks each merge) file
