use Rattle.std.proofs.Common.{◌≡◌, ◌-◌, ◌≤◌, ◌^◌, IfSome}
use Rattle.road_base.specs.Profiles.{IsProfile}
use Rattle.road_io.specs.Told.{Told}
use Rattle.sequence_journal.specs.Windows.{Holds}
use Rattle.sequence_journal.proofs.ReadSoFar.{Reading}
use Rattle.sequence_journal.proofs.whole_file.judge.Given as goal

abbrev pub invariant-loop-history : goal.invariant-loop-history
invariant-loop-history g l = record {
  told : Told (Reading l.fn.file l.history) (g.W.Site.outside l.fn.site) (g.W.Site.outside l.site);
  holds : IfSome (g.W.Site.outside l.site) (Holds l.fn.file l.window);
  within : l.history.gate ≤ l.history.len;
  small : l.history.len ≤ 2 ^ 40;
  known : IsProfile l.history.profile;
  counted : g.W.Site.faults l.site ≡ g.W.Site.faults l.fn.site;
}

abbrev pub decreases-loop-history : goal.decreases-loop-history
decreases-loop-history g l = l.history.len - l.history.gate
