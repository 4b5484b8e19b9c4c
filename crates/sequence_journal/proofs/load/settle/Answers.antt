use Rattle.road_io.specs.Outside.{IsSound}
use Rattle.road_io.proofs.ToldCalls.{told_with}
use Rattle.sequence_journal.proofs.SettledFile.{settles}
use Rattle.sequence_journal.proofs.load.settle.Goals as goal

pub returns-clause-told : goal.returns-clause-told
returns-clause-told g c = told_with _ _ IsSound _ _ (g.met.W.Site.sound c.args.site.now) c.sync.ensures.told
    (settles c.args.file c.sync.result)
