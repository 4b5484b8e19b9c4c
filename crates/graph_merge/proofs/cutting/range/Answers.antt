use Rattle.std.proofs.Common.{refl, sym, subst}
use Rattle.std.specs.FinMap.{values}
use Rattle.road_model.specs.Format.{IsGraphFile}
use Rattle.graph_file.specs.GraphReading.{IsFile}
use Rattle.graph_merge.proofs.cutting.range.Goals as goal

pub returns-in-Ok-None-clause-fault : goal.returns-in-Ok-None-clause-fault
returns-in-Ok-None-clause-fault c = (
  λ is. (rw c.in-Ok-None.field-0-is at c.in-Ok-None.ensures.none)
      (subst IsGraphFile (sym c.deref.ensures.value) is),
  refl,
)

pub put_range-requires : goal.put_range-requires
put_range-requires c = (c.deref.result.now, rw c.in-Ok-Some.field-0-is at c.in-Ok-Some.ensures.file)

pub returns-in-Ok-clause-range : goal.returns-in-Ok-clause-range
returns-in-Ok-clause-range c =
    let graph = c.in-Ok-Some.graph in
    let file : IsFile graph.version graph.profile c.deref.result.now (values graph.blocks.map) =
    rw c.in-Ok-Some.field-0-is at c.in-Ok-Some.ensures.file in
    c.in-Ok.ensures c.args.bytes.items
    (subst (λ l. IsFile graph.version graph.profile l (values graph.blocks.map)) c.deref.ensures.value file)
