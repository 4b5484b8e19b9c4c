use Rattle.std.proofs.Common.{subst, sym}
use Rattle.std.specs.Prelude.{None, Some}
use Rattle.std.specs.FinMap.{remove}
use Rattle.pinned_readers.specs.PinnedRuns.{Pins, IsReleaseStep}
use Rattle.pinned_readers.specs.Followers.{AreNeeded, Goes, IsDropped}
use Rattle.pinned_readers.proofs.HeldFollowers.{followers}
use Rattle.pinned_readers.proofs.PinSteps.{pinned_from, unpinned_from, not_released, release_needed, released}
use Rattle.pinned_readers.proofs.readers.Readers.release.Goals as goal

pub returns-in_default-clause-step : goal.returns-in_default-clause-step
returns-in_default-clause-step g c =
    subst (λ v. Goes g.F.Follower.objects v v (λ h pins then. IsReleaseStep pins c.args.reader None then))
    c.self.view_is
    (not_released g.F.Follower.objects
    (followers c.self.inside.number.0 c.self.inside.newest c.self.inside.older c.self.inside.pins) c.args.reader
    (unpinned_from c.self.inside.pins c.args.reader c.get.result c.get.ensures c.in_default.is))

pub invariant_of-self : goal.invariant_of-self
invariant_of-self g c =
    let s = c.self.inside in
    let n = c.in-Some.number in
    subst (λ (pins : Pins). AreNeeded g.F.Follower.fixed (followers s.number.0 s.newest c.drop_unneeded.new.older pins))
    (sym c.remove.ensures)
    (release_needed g.F.Follower.fixed (followers s.number.0 s.newest s.older s.pins) c.self.invariant c.args.reader n.0
    (pinned_from s.pins c.args.reader c.get.result n c.get.ensures c.in-Some.is) c.drop_unneeded.new.older
    (subst (λ (pins : Pins). IsDropped pins n.0 s.older c.drop_unneeded.new.older) c.remove.ensures
    c.drop_unneeded.ensures))

pub returns-clause-step : goal.returns-clause-step
returns-clause-step g c =
    let s = c.self.inside in
    let n = c.in-Some.number in
    let older = c.drop_unneeded.new.older in
    subst (λ (pins : Pins). Goes g.F.Follower.objects c.args.self.now (followers s.number.0 s.newest older pins)
    (λ h pins then. IsReleaseStep pins c.args.reader (Some n.0) then)) (sym c.remove.ensures)
    (subst (λ v. Goes g.F.Follower.objects v (followers s.number.0 s.newest older (remove s.pins c.args.reader))
    (λ h pins then. IsReleaseStep pins c.args.reader (Some n.0) then)) c.self.view_is
    (released g.F.Follower.fixed (followers s.number.0 s.newest s.older s.pins) c.self.invariant c.args.reader n.0
    (pinned_from s.pins c.args.reader c.get.result n c.get.ensures c.in-Some.is) older
    (subst (λ (pins : Pins). IsDropped pins n.0 s.older older) c.remove.ensures c.drop_unneeded.ensures)
    g.F.Follower.objects))
