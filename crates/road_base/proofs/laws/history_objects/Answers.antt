use Rattle.road_base.proofs.Histories.{some_objects, one_objects, grows, counts, same}
use Rattle.road_base.proofs.laws.history_objects.Goals as goal

pub returns-clause-some : goal.returns-clause-some
returns-clause-some c = some_objects

pub returns-clause-one : goal.returns-clause-one
returns-clause-one c = one_objects

pub returns-clause-grows : goal.returns-clause-grows
returns-clause-grows c = grows

pub returns-clause-counts : goal.returns-clause-counts
returns-clause-counts c = counts

pub returns-clause-same : goal.returns-clause-same
returns-clause-same c = same
