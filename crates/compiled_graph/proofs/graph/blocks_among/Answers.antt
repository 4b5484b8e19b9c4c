use Rattle.std.proofs.Common.{IfOk, sym, subst}
use Rattle.road_base.specs.Objects.{Objects}
use Rattle.road_base.specs.Profiles.{IsProfile}
use Rattle.expanded_graph.specs.Pair.{Pair}
use Rattle.compiled_graph.specs.Building.{HasBlocksAmong}
use Rattle.compiled_graph.proofs.graph.blocks_among.Goals as goal

pub write_blocks-graph-requires-clause-known : goal.write_blocks-graph-requires-clause-known
write_blocks-graph-requires-clause-known g c =
    subst (λ (b : Pair Objects g.row.P.Denot). IsProfile (g.P.Profile.rules b.profile).number) (sym
    c.in_ok-builder.ensures)
    c.requires.known

pub returns-clause-part : goal.returns-clause-part
returns-clause-part g c =
    subst (λ (b : Pair Objects g.row.P.Denot). IfOk c.write_blocks-graph.result
    (λ out. HasBlocksAmong b.world (g.P.Profile.rules b.profile) c.args.ways.now out.items)) c.in_ok-builder.ensures
    c.write_blocks-graph.ensures.part
