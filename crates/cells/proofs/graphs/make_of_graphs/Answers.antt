use Rattle.cells.proofs.GraphReplies.{stopped_graphs, stopped_reads, read_graphs, answer_reads}
use Rattle.cells.proofs.graphs.make_of_graphs.Goals as goal

-- ---- the bytes aren't read

pub returns-in-Err-clause-prepares : goal.returns-in-Err-clause-prepares
returns-in-Err-clause-prepares g c =
    stopped_graphs c.args.command (g.S.Source.bytes_left c.args.source.now)
    (g.S.Source.bytes_left c.gather.new.source) _ _ c.in-Err.error c.refuse_input.result c.in-Err.ensures.err
    c.refuse_input.ensures

pub returns-in-Err-clause-reads : goal.returns-in-Err-clause-reads
returns-in-Err-clause-reads g c =
    stopped_reads c.in-Err.error _ _ _ _ c.refuse_input.result c.in-Err.ensures.err
    (λ rises. let e = c.in-Err.ensures.each_fault rises in cc) c.refuse_input.ensures

-- ---- they are read

pub answer-requires : goal.answer-requires
answer-requires g c = c.in-Ok.ensures.ok.within

pub returns-in-Ok-clause-prepares : goal.returns-in-Ok-clause-prepares
returns-in-Ok-clause-prepares g c =
    read_graphs c.args.command (g.S.Source.bytes_left c.args.source.now)
    (g.S.Source.bytes_left c.gather.new.source) c.in-Ok.bytes.items c.in-Ok.ensures.ok c.answer.result
    c.answer.ensures

pub returns-in-Ok-clause-reads : goal.returns-in-Ok-clause-reads
returns-in-Ok-clause-reads g c = answer_reads c.args.command c.in-Ok.bytes.items _ _ c.answer.result c.answer.ensures
    (λ rises. let e = c.in-Ok.ensures.each_fault rises in cc)
