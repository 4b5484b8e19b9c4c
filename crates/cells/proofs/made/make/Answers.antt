use Rattle.std.proofs.Common.{refl}
use Rattle.cells.proofs.Prepared.{no_memory, failed_reads, reads_calm}
use Rattle.cells.proofs.TextReplies.{refused_text, input_reads, failed_text, read_text}
use Rattle.cells.proofs.MadeBlocks.{builds_none, builds_whole}
use Rattle.cells.proofs.made.make.Goals as goal

-- ---- the text isn't taken

pub returns-in-Err-clause-prepares : goal.returns-in-Err-clause-prepares
returns-in-Err-clause-prepares g c =
    refused_text c.args.command.now (g.S.Source.bytes_left c.args.source.now)
    (g.S.Source.bytes_left c.read_events.new.source) _ _ c.in-Err.error c.refuse_input.result c.in-Err.ensures.err
    c.refuse_input.ensures

pub returns-in-Err-clause-reads : goal.returns-in-Err-clause-reads
returns-in-Err-clause-reads g c =
    input_reads c.in-Err.error _ _ _ _ c.refuse_input.result c.in-Err.ensures.err
    (λ rises. let e = c.in-Err.ensures.each_fault rises in cc) c.refuse_input.ensures

pub returns-in-Err-clause-built : goal.returns-in-Err-clause-built
returns-in-Err-clause-built g c =
    builds_none c.args.command.now (g.S.Source.bytes_left c.args.source.now) c.args.steps.now

-- ---- memory ended

pub returns-in_err-out-clause-prepares : goal.returns-in_err-out-clause-prepares
returns-in_err-out-clause-prepares g c =
    failed_text c.args.command.now (g.S.Source.bytes_left c.args.source.now)
    (g.S.Source.bytes_left c.read_events.new.source) c.in-Ok.events.items c.in-Ok.ensures.ok c.from_residual.result
    (no_memory c.from_residual.result c.from_residual.ensures.1)

pub returns-in_err-out-clause-reads : goal.returns-in_err-out-clause-reads
returns-in_err-out-clause-reads g c = failed_reads c.from_residual.result _ _
    (no_memory c.from_residual.result c.from_residual.ensures.1)
    (λ rises. let e = c.in-Ok.ensures.each_fault rises in cc)

pub returns-in_err-out-clause-built : goal.returns-in_err-out-clause-built
returns-in_err-out-clause-built g c =
    builds_whole c.one_reading.ensures (g.S.Source.bytes_left c.args.source.now)
    (g.S.Source.bytes_left c.read_events.new.source) c.in-Ok.events.items c.in-Ok.ensures.ok c.args.command.now
    c.args.steps.now c.made_of.new.steps c.made_of.ensures.built

-- ---- it is made

pub returns-clause-prepares : goal.returns-clause-prepares
returns-clause-prepares g c =
    read_text c.args.command.now (g.S.Source.bytes_left c.args.source.now)
    (g.S.Source.bytes_left c.read_events.new.source) c.in-Ok.events.items c.in-Ok.ensures.ok _ c.in_ok-out.out.items
    (refl, refl) c.in_ok-out.ensures.made

pub returns-clause-reads : goal.returns-clause-reads
returns-clause-reads g c =
    reads_calm _ _ _ (λ rises. let e = c.in-Ok.ensures.each_fault rises in cc) (λ e. (cc))

pub returns-clause-built : goal.returns-clause-built
returns-clause-built g c =
    builds_whole c.one_reading.ensures (g.S.Source.bytes_left c.args.source.now)
    (g.S.Source.bytes_left c.read_events.new.source) c.in-Ok.events.items c.in-Ok.ensures.ok c.args.command.now
    c.args.steps.now c.made_of.new.steps c.made_of.ensures.built
