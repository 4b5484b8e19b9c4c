use Rattle.std.proofs.Common.{Ok, refl, subst, List, ℕ}
use Rattle.std.specs.FinMap.{values}
use Rattle.road_model.specs.Format.{IsGraphFile}
use Rattle.graph_file.specs.GraphReading.{IsFile}
use Rattle.last_words.specs.declared.status.Status.TheVariants.{Done}
use Rattle.osmroad.proofs.Prepared.{no_memory}
use Rattle.osmroad.proofs.AnsweredFaults.{failed_reads, reads_calm}
use Rattle.osmroad.proofs.InspectReplies.{stopped_file, stopped_reads, failed_file, no_graph, counted_graph}
use Rattle.osmroad.proofs.inspect.inspect.Goals as goal

-- ---- the bytes aren't read

pub returns-in-Err-clause-prepares : goal.returns-in-Err-clause-prepares
returns-in-Err-clause-prepares g c = λ outside.
    stopped_file (g.S.Source.bytes_left c.args.source.now) (g.S.Source.bytes_left c.gather.new.source) outside _ _
    c.in-Err.error c.refuse_input.result c.in-Err.ensures.err c.refuse_input.ensures

pub returns-in-Err-clause-reads : goal.returns-in-Err-clause-reads
returns-in-Err-clause-reads g c =
    stopped_reads c.in-Err.error _ _ _ _ c.refuse_input.result c.in-Err.ensures.err
    (λ rises. let e = c.in-Err.ensures.each_fault rises in cc) c.refuse_input.ensures

-- ---- memory ended

pub returns-in_err-graph-clause-prepares : goal.returns-in_err-graph-clause-prepares
returns-in_err-graph-clause-prepares g c = λ outside.
    failed_file (g.S.Source.bytes_left c.args.source.now) (g.S.Source.bytes_left c.gather.new.source) outside
    c.in-Ok.bytes.items c.in-Ok.ensures.ok c.from_residual.result
    (no_memory c.from_residual.result c.from_residual.ensures.1)

pub returns-in_err-graph-clause-reads : goal.returns-in_err-graph-clause-reads
returns-in_err-graph-clause-reads g c = failed_reads c.from_residual.result _ _
    (no_memory c.from_residual.result c.from_residual.ensures.1)
    (λ rises. let e = c.in-Ok.ensures.each_fault rises in cc)

pub returns-in_err-out-in-Some-clause-prepares : goal.returns-in_err-out-in-Some-clause-prepares
returns-in_err-out-in-Some-clause-prepares g c = λ outside.
    let failed = c.from_residual-in_err-out-in-Some in
    failed_file (g.S.Source.bytes_left c.args.source.now) (g.S.Source.bytes_left c.gather.new.source) outside
    c.in-Ok.bytes.items c.in-Ok.ensures.ok failed.result (no_memory failed.result failed.ensures.1)

pub returns-in_err-out-in-Some-clause-reads : goal.returns-in_err-out-in-Some-clause-reads
returns-in_err-out-in-Some-clause-reads g c =
    let failed = c.from_residual-in_err-out-in-Some in
    failed_reads failed.result _ _ (no_memory failed.result failed.ensures.1)
    (λ rises. let e = c.in-Ok.ensures.each_fault rises in cc)

pub returns-in_err-fixed-in-None-clause-prepares : goal.returns-in_err-fixed-in-None-clause-prepares
returns-in_err-fixed-in-None-clause-prepares g c = λ outside.
    let failed = c.from_residual-in_err-fixed-in-None in
    failed_file (g.S.Source.bytes_left c.args.source.now) (g.S.Source.bytes_left c.gather.new.source) outside
    c.in-Ok.bytes.items c.in-Ok.ensures.ok failed.result (no_memory failed.result failed.ensures.1)

pub returns-in_err-fixed-in-None-clause-reads : goal.returns-in_err-fixed-in-None-clause-reads
returns-in_err-fixed-in-None-clause-reads g c =
    let failed = c.from_residual-in_err-fixed-in-None in
    failed_reads failed.result _ _ (no_memory failed.result failed.ensures.1)
    (λ rises. let e = c.in-Ok.ensures.each_fault rises in cc)

-- ---- the bytes are a graph's

pub returns-in_ok-out-in-Some-clause-prepares : goal.returns-in_ok-out-in-Some-clause-prepares
returns-in_ok-out-in-Some-clause-prepares g c = λ outside.
    let blocks = values c.in-Some.graph.blocks.map in
    let file : IsFile c.in-Some.graph.version c.in-Some.graph.profile c.deref.result.now blocks = rw c.in-Some.is at
    c.in_ok-graph.ensures.file in
    let is : IsGraphFile c.deref.result.now = rw c.in-Some.is at c.in_ok-graph.ensures.grammar in
    counted_graph (g.S.Source.bytes_left c.args.source.now) (g.S.Source.bytes_left c.gather.new.source) outside
    c.in-Ok.bytes.items c.in-Ok.ensures.ok (Ok (record { status = Done; out = c.in_ok-out-in-Some.out }))
    c.in-Some.graph.version c.in-Some.graph.profile blocks
    (refl, c.in_ok-out-in-Some.ensures)
    (subst (λ (l : List ℕ). IsGraphFile l) c.deref.ensures.value is)
    (subst (λ (l : List ℕ). IsFile c.in-Some.graph.version c.in-Some.graph.profile l blocks) c.deref.ensures.value file)

pub returns-in_ok-out-in-Some-clause-reads : goal.returns-in_ok-out-in-Some-clause-reads
returns-in_ok-out-in-Some-clause-reads g c =
    reads_calm _ _ _ (λ rises. let e = c.in-Ok.ensures.each_fault rises in cc) (λ e. (cc))

-- ---- they aren't

pub returns-in_ok-fixed-in-None-clause-prepares : goal.returns-in_ok-fixed-in-None-clause-prepares
returns-in_ok-fixed-in-None-clause-prepares g c = λ outside.
    let none : IsGraphFile c.deref.result.now → ⊥ = rw c.in-None.is at c.in_ok-graph.ensures.none in
    no_graph (g.S.Source.bytes_left c.args.source.now) (g.S.Source.bytes_left c.gather.new.source) outside
    c.in-Ok.bytes.items c.in-Ok.ensures.ok (Ok c.in_ok-fixed-in-None.field-0) c.in_ok-fixed-in-None.ensures
    (subst (λ (l : List ℕ). IsGraphFile l → ⊥) c.deref.ensures.value none)

pub returns-in_ok-fixed-in-None-clause-reads : goal.returns-in_ok-fixed-in-None-clause-reads
returns-in_ok-fixed-in-None-clause-reads g c =
    reads_calm _ _ _ (λ rises. let e = c.in-Ok.ensures.each_fault rises in cc) (λ e. (cc))
