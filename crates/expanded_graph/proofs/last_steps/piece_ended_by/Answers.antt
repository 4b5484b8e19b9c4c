-- The spans that begin at or below the step stand in front, and one that ends with it is among the last two of them.
use Rattle.std.proofs.Common.{rules, arith, sym, ◌∙◌}
use Rattle.std.proofs.Math.Dec.{leb}
use Rattle.std.proofs.lemmas.List.Sorted.{IsPartitionPoint-from_clause}
use Rattle.expanded_graph.proofs.LastSteps.{none_more, parted, names_none, names_some}
use Rattle.expanded_graph.proofs.last_steps.piece_ended_by.Goals as goal

pub loop-span-init : goal.loop-span-init
loop-span-init c = λ k l. absurd (omega arith)

pub loop-span-preserved : goal.loop-span-preserved
loop-span-preserved c = none_more _ c.loop-span.span-index _ c.last_step.result c.args.step c.loop-span-test.true
    c.loop-span.invariant c.last_step.ensures (sym c.eq.ensures ∙ c.if-eq.false)

pub returns-then-eq : goal.returns-then-eq
returns-then-eq c = λ M P lists.
    let x = c.args.step in
    let xs = c.args.spans.now in
    names_some M P x xs lists c.partition_point-count.result
    (IsPartitionPoint-from_clause (λ s. leb s.name.index x.index) xs c.partition_point-count.result
    c.partition_point-count.ensures.partitioned (parted M P x xs lists) (λ a r q k. search rules))
    c.partition_point-count.ensures.bound c.saturating_sub.result c.saturating_sub.ensures c.loop-span.span-index _
    c.last_step.result c.loop-span-test.true
    c.last_step.ensures (sym c.eq.ensures ∙ c.if-eq.true)

pub returns : goal.returns
returns c = λ M P lists.
    let x = c.args.step in
    let xs = c.args.spans.now in
    names_none M P x xs lists c.partition_point-count.result
    (IsPartitionPoint-from_clause (λ s. leb s.name.index x.index) xs c.partition_point-count.result
    c.partition_point-count.ensures.partitioned (parted M P x xs lists) (λ a r q k. search rules))
    c.partition_point-count.ensures.bound c.saturating_sub.result c.saturating_sub.ensures
    (λ k l. c.loop-span.invariant k (omega arith))
