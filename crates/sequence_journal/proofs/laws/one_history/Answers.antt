use Rattle.sequence_journal.proofs.OneHistory.{stands_once}
use Rattle.sequence_journal.proofs.laws.one_history.Goals as goal

pub returns : goal.returns
returns c file g k h i s t = let same = stands_once c.one_list.ensures file g k h i s t in
    (same.generation, same.history)
