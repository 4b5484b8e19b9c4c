use Rattle.road_model.proofs.ShortWords.{short_context}
use Rattle.road_model.proofs.TurnSteps.{single, to_steps, from_steps, one_list, names}
use Rattle.road_model.proofs.laws.context_steps.Goals as goal

pub returns-clause-single : goal.returns-clause-single
returns-clause-single g c M p i = single M _ p i

pub returns-clause-to : goal.returns-clause-to
returns-clause-to g c M d a b rest k e = to_steps M _ d a b rest k e

pub returns-clause-from : goal.returns-clause-from
returns-clause-from g c M q s u t p front l w e i f = from_steps M _ q s u t p front l w e i f

pub returns-clause-one : goal.returns-clause-one
returns-clause-one g c M d e q i j h k = one_list M _ d e q i j h k

pub returns-clause-names : goal.returns-clause-names
returns-clause-names g c M d q f i h k = names M _ f d q i h k

pub returns-clause-short : goal.returns-clause-short
returns-clause-short g c M d i = short_context M _ d i
