-- A search in sorted steps finds a step exactly where it is among them.
use Rattle.drive_judging.proofs.WordsGathered.{found}
use Rattle.drive_judging.proofs.word_table.is_among.Goals as goal

pub returns : goal.returns
returns c =
    found c.args.steps.now c.args.step c.requires c.binary_search.result c.binary_search.ensures.bound
    c.binary_search.ensures.position c.is_ok.result c.is_ok.ensures.value
