use Rattle.std.proofs.Common.{◌≡◌, ◌++◌, sym}
use Rattle.std.specs.FinMap.{values}
use Rattle.road_model.specs.Format.{graph_bytes}
use Rattle.graph_file.specs.GraphReading.{IsFile}
use Rattle.graph_file.proofs.Files.{values_are}
use Rattle.graph_merge.proofs.FrontFiles.{first_read}
use Rattle.graph_merge.proofs.collecting.CollectedGraphs.first.Goals as goal

pub returns-in-Ok-Some-clause-some : goal.returns-in-Ok-Some-clause-some
returns-in-Ok-Some-clause-some c =
    let graph = c.in-Ok-Some.graph in
    let bs = values graph.blocks.map in
    let file : IsFile graph.version graph.profile (graph_bytes graph.version graph.profile bs) bs =
    rw c.in-Ok-Some.field-0-is at c.in-Ok-Some.ensures.file in
    let front : c.args.bytes.now ≡ graph_bytes graph.version graph.profile bs ++ c.in-Ok-Some.rest.now =
    rw c.in-Ok-Some.field-0-is at c.in-Ok-Some.ensures.front in
    first_read (record { version = graph.version; profile = graph.profile; blocks = c.into_list.result }) bs
    c.args.bytes.now c.in-Ok-Some.rest.now file front
    (sym (values_are graph.blocks.map c.into_list.result.items c.into_list.ensures.entries))
