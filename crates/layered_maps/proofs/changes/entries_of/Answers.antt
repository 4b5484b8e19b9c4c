use Rattle.std.proofs.Common.{◌∙◌, arith}
use Rattle.layered_maps.proofs.WalkSteps.{run_there, run_none}
use Rattle.layered_maps.proofs.changes.entries_of.Goals as goal

pub returns-in-Some-clause-pairs : goal.returns-in-Some-clause-pairs
returns-in-Some-clause-pairs g c =
    let is = c.in-Some.ensures.lookup.3 in
    c.entries.ensures.pairs ∙ c.deref.ensures
    ∙ run_there c.args.runs.now c.args.place c.in-Some.run'.now is.0 (is.1 c.in-Some.run'.now)

pub returns-in-None-clause-pairs : goal.returns-in-None-clause-pairs
returns-in-None-clause-pairs g c =
    run_none c.args.runs.now c.args.place (omega (arith, c.in-None.ensures.lookup))
