use Rattle.std.proofs.Common.{◌∙◌, ◌≤◌, subst, sym}
use Rattle.pinned_readers.specs.PinnedRuns.{Pins, IsPinStep, most_readers, Busy, Full, Pinned}
use Rattle.pinned_readers.specs.Followers.{AreNeeded, Goes}
use Rattle.pinned_readers.proofs.HeldFollowers.{followers}
use Rattle.pinned_readers.proofs.PinSteps.{free_from, room, busy_from, full, with_pin, pins_on, pins_needed}
use Rattle.pinned_readers.proofs.readers.Readers.pin.Goals as goal

pub returns-then-is_some-clause-step : goal.returns-then-is_some-clause-step
returns-then-is_some-clause-step g c =
    subst (λ v. Goes g.F.Follower.objects v v (λ h pins then. IsPinStep h pins c.args.reader Busy then)) c.self.view_is
    (busy_from g.F.Follower.objects
    (followers c.self.inside.number.0 c.self.inside.newest c.self.inside.older c.self.inside.pins) c.args.reader
    c.get.result c.get.ensures (sym c.is_some.ensures ∙ c.if-is_some.true))

pub returns-then-len-ge-MOST_READERS-clause-step : goal.returns-then-len-ge-MOST_READERS-clause-step
returns-then-len-ge-MOST_READERS-clause-step g c =
    subst (λ v. Goes g.F.Follower.objects v v (λ h pins then. IsPinStep h pins c.args.reader Full then)) c.self.view_is
    (full g.F.Follower.objects
    (followers c.self.inside.number.0 c.self.inside.newest c.self.inside.older c.self.inside.pins) c.args.reader
    (free_from c.self.inside.pins c.args.reader c.get.result c.get.ensures (sym c.is_some.ensures ∙ c.if-is_some.false))
    (subst (λ n. most_readers ≤ n) c.len.ensures c.if-len-ge-MOST_READERS.true))

pub invariant_of-self-2 : goal.invariant_of-self-2
invariant_of-self-2 g c =
    let s = c.self.inside in
    subst (λ (pins : Pins). AreNeeded g.F.Follower.fixed (followers s.number.0 s.newest s.older pins))
    (sym c.in-Ok.ensures.ok)
    (pins_needed g.F.Follower.objects (followers s.number.0 s.newest s.older s.pins) c.args.reader g.F.Follower.fixed
    c.self.invariant
    (free_from s.pins c.args.reader c.get.result c.get.ensures (sym c.is_some.ensures ∙ c.if-is_some.false))
    (room s.pins c.len.result c.len.ensures c.if-len-ge-MOST_READERS.false))

pub returns-clause-step : goal.returns-clause-step
returns-clause-step g c =
    let s = c.self.inside in
    subst (λ (pins : Pins). Goes g.F.Follower.objects c.args.self.now (followers s.number.0 s.newest s.older pins)
    (λ h pins then. IsPinStep h pins c.args.reader (Pinned s.number.0) then)) (sym c.in-Ok.ensures.ok)
    (subst (λ v. Goes g.F.Follower.objects v
    (with_pin g.F.Follower.objects (followers s.number.0 s.newest s.older s.pins) c.args.reader)
    (λ h pins then. IsPinStep h pins c.args.reader (Pinned s.number.0) then)) c.self.view_is
    (pins_on g.F.Follower.objects (followers s.number.0 s.newest s.older s.pins) c.args.reader
    (free_from s.pins c.args.reader c.get.result c.get.ensures (sym c.is_some.ensures ∙ c.if-is_some.false))
    (room s.pins c.len.result c.len.ensures c.if-len-ge-MOST_READERS.false)))
