use Rattle.std.proofs.Common.{◌≡◌, length, ◌-◌, ◌≤◌}
use Rattle.road_io.specs.Told.{Told}
use Rattle.sequence_journal.proofs.FilledParts.{FilledSoFar}
use Rattle.sequence_journal.proofs.parts.fill.Given as goal

abbrev pub invariant-loop-at : goal.invariant-loop-at
invariant-loop-at g l = record {
  within : l.at ≤ length l.buf;
  told : Told (FilledSoFar l.file l.from l.at l.buf) (g.W.Site.outside l.fn.site) (g.W.Site.outside l.site);
  counted : g.W.Site.faults l.site ≡ g.W.Site.faults l.fn.site;
}

abbrev pub decreases-loop-at : goal.decreases-loop-at
decreases-loop-at g l = length l.initial.buf - l.at
