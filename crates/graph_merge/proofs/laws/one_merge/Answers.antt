use Rattle.graph_merge.proofs.OneMerge.{one_out, not_refused}
use Rattle.graph_merge.proofs.laws.one_merge.Goals as goal

pub returns-clause-one : goal.returns-clause-one
returns-clause-one c = one_out

pub returns-clause-fault : goal.returns-clause-fault
returns-clause-fault c = not_refused
