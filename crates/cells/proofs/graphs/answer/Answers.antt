use Rattle.std.proofs.Common.{subst, ◌∙◌}
use Rattle.graph_merge.specs.declared.faults.MergeError.{MergeError}
use Rattle.graph_merge.specs.Merging.{IfFault}
use Rattle.cells.specs.Outcomes.{GraphsGive, IsRefusedGraph}
use Rattle.cells.proofs.graphs.answer.Goals as goal

pub returns-in_ok-line-in-Err-Fault : goal.returns-in_ok-line-in-Err-Fault
returns-in_ok-line-in-Err-Fault c =
    GraphsGive.OfFault c.requires c.in-Err-Fault.fault
    (subst (λ (e : MergeError). IfFault (IsRefusedGraph c.args.command c.args.bytes.items) e) c.in-Err-Fault.field-0-is
    c.in-Err-Fault.ensures.err)
    c.new.ensures.0 (c.new.ensures.1 ∙ c.in_ok-line-in-Err-Fault.ensures)
