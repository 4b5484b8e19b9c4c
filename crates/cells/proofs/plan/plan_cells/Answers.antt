use Rattle.std.proofs.Common.{[], refl}
use Rattle.cells.proofs.Prepared.{no_memory, failed_reads, reads_calm}
use Rattle.cells.proofs.PlanReplies.{refused_stream, stream_reads, failed_stream, read_stream}
use Rattle.cells.proofs.plan.plan_cells.Goals as goal

-- ---- the text isn't taken

pub returns-in-Err-clause-prepares : goal.returns-in-Err-clause-prepares
returns-in-Err-clause-prepares g c =
    refused_stream c.args.rule (g.S.Source.bytes_left c.args.source.now)
    (g.S.Source.bytes_left c.stream_events.new.source) _ _ c.in-Err.error c.refuse_input.result c.in-Err.ensures.err
    c.refuse_input.ensures

pub returns-in-Err-clause-reads : goal.returns-in-Err-clause-reads
returns-in-Err-clause-reads g c =
    stream_reads c.in-Err.error _ _ _ _ c.refuse_input.result c.in-Err.ensures.err
    (λ rises. let e = c.in-Err.ensures.each_fault rises in cc) c.refuse_input.ensures

-- ---- memory ended

pub returns-in_err-out-in-Ok-clause-prepares : goal.returns-in_err-out-in-Ok-clause-prepares
returns-in_err-out-in-Ok-clause-prepares g c =
    failed_stream c.args.rule (g.S.Source.bytes_left c.args.source.now)
    (g.S.Source.bytes_left c.stream_events.new.source) _ c.in-Ok.ensures.ok c.from_residual.result
    (no_memory c.from_residual.result c.from_residual.ensures.1)

pub returns-in_err-out-in-Ok-clause-reads : goal.returns-in_err-out-in-Ok-clause-reads
returns-in_err-out-in-Ok-clause-reads g c = failed_reads c.from_residual.result _ _
    (no_memory c.from_residual.result c.from_residual.ensures.1)
    (λ rises. let e = c.in-Ok.ensures.each_fault rises in cc)

-- ---- the cells are planned

pub returns-in_ok-out-in-Ok-clause-prepares : goal.returns-in_ok-out-in-Ok-clause-prepares
returns-in_ok-out-in-Ok-clause-prepares g c =
    let whole = c.in-Ok.ensures.ok in
    read_stream c.args.rule (g.S.Source.bytes_left c.args.source.now)
    (g.S.Source.bytes_left c.stream_events.new.source) _ whole _ c.in_ok-out-in-Ok.out.items
    (refl, refl) (c.in_ok-out-in-Ok.ensures whole.events (whole.taken [] c.new.ensures.none))

pub returns-in_ok-out-in-Ok-clause-reads : goal.returns-in_ok-out-in-Ok-clause-reads
returns-in_ok-out-in-Ok-clause-reads g c =
    reads_calm _ _ _ (λ rises. let e = c.in-Ok.ensures.each_fault rises in cc) (λ e. (cc))
