use Rattle.std.proofs.Common.{Ok, false}
use Rattle.sequence_journal.specs.Reading.{TestsEnd}
use Rattle.road_io.proofs.ToldCalls.{told_same}
use Rattle.sequence_journal.proofs.PartAnswers.{end_elsewhere}
use Rattle.sequence_journal.proofs.parts.ends_there.Goals as goal

pub returns-then-len-gate-ne1-clause-told : goal.returns-then-len-gate-ne1-clause-told
returns-then-len-gate-ne1-clause-told g c = told_same (g.W.Site.outside c.args.site.now)
    (TestsEnd c.args.file c.args.len c.args.gate (Ok false))
    (λ w. end_elsewhere c.args.file c.args.len c.args.gate w c.if-len-gate-ne1.true)
