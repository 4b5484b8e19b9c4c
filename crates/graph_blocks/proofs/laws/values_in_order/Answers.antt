use Rattle.graph_blocks.proofs.LentBlocks.{values_ascend, values_stand}
use Rattle.graph_blocks.proofs.laws.values_in_order.Goals as goal

pub returns-clause-ascending : goal.returns-clause-ascending
returns-clause-ascending c = λ m at.
    values_ascend c.name_order.ensures.ways c.name_order.ensures.way_ties m at

pub returns-clause-each : goal.returns-clause-each
returns-clause-each c = λ m at.
    values_stand c.name_order.ensures.ways c.name_order.ensures.way_ties m at
