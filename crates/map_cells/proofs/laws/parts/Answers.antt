use Rattle.std.proofs.Common.{refl}
use Rattle.map_cells.proofs.PartBlocks.{same_blocks}
use Rattle.map_cells.proofs.laws.parts.Goals as goal

pub returns-clause-blocks : goal.returns-clause-blocks
returns-clause-blocks g c M list blocks compiled listed = same_blocks M (g.P.Profile.rules c.args.profile.now)
    (c.blocks_stay.ensures M) list compiled blocks listed

pub returns-clause-graph : goal.returns-clause-graph
returns-clause-graph g c M list blocks compiled listed = record {
  blocks = blocks;
  listed = same_blocks M (g.P.Profile.rules c.args.profile.now) (c.blocks_stay.ensures M) list compiled blocks listed;
  spelled = refl;
}
