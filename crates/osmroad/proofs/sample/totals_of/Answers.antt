use Rattle.std.specs.FinMap.{values}
use Rattle.road_model.specs.Format.{IsGraphFile}
use Rattle.graph_file.specs.GraphReading.{IsFile}
use Rattle.osmroad.proofs.sample.totals_of.Goals as goal

pub unreachable-requires : goal.unreachable-requires
unreachable-requires c =
    let none : IsGraphFile c.args.bytes.now → ⊥ = rw c.in-None.is at c.in_ok-graph.ensures.none in
    none c.requires

pub returns : goal.returns
returns c =
    let blocks = values c.in-Some.graph.blocks.map in
    let profile = c.in-Some.graph.profile in
    let version = c.in-Some.graph.version in
    let file : IsFile version profile c.args.bytes.now blocks = rw c.in-Some.is at c.in_ok-graph.ensures.file in
    (version, profile, blocks, file, c.counts.ensures)
