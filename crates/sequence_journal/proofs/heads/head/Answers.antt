use Rattle.road_io.proofs.ToldCalls.{told_weaker}
use Rattle.sequence_journal.proofs.PartAnswers.{head_told}
use Rattle.sequence_journal.proofs.heads.head.Goals as goal

pub returns-clause-told : goal.returns-clause-told
returns-clause-told g c = told_weaker _ _ _ _ (rw c.in-Some.is at c.in_ok-found.ensures.told)
    (head_told c.args.file c.in-Some.found)
