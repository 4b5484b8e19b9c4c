use Rattle.std.proofs.Common.{rules}
use Rattle.std.specs.Ordering.{is_lt}
use Rattle.std.proofs.lemmas.List.Sorted.{IsPartitionPoint-from_clause}
use Rattle.layered_maps.specs.declared.entry_run.Entry.{Entry}
use Rattle.layered_maps.proofs.changes.count_below.Goals as goal

pub returns-clause-point : goal.returns-clause-point
returns-clause-point g c =
    IsPartitionPoint-from_clause (λ (e : Entry g.row.K.Denot g.row.V.Denot). is_lt (g.K.Ord.cmp e.key c.args.key)) _ _
    c.partition_point.ensures.partitioned c.requires (λ a r q k. search rules)
