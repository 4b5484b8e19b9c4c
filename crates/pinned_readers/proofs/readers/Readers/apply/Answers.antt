use Rattle.std.proofs.Common.{subst, sym}
use Rattle.pinned_readers.specs.Followers.{StandsFor}
use Rattle.pinned_readers.proofs.HeldFollowers.{followers}
use Rattle.pinned_readers.proofs.ChangeSteps.{change_needed, change_stands}
use Rattle.pinned_readers.proofs.readers.Readers.apply.Goals as goal

pub invariant_of-self-2 : goal.invariant_of-self-2
invariant_of-self-2 g c =
    let s = c.self.inside in
    change_needed g.F.Follower.fixed (followers s.number.0 s.newest s.older s.pins) c.self.invariant c.follow.new.older
    c.in_ok-follow.ensures.kept c.follow.new.newest c.in_ok-follow.ensures.fixed

pub returns-clause-follows : goal.returns-clause-follows
returns-clause-follows g c = λ h pins stands.
    let s = c.self.inside in
    change_stands g.F.Follower.fixed (followers s.number.0 s.newest s.older s.pins) c.self.invariant c.follow.new.older
    c.in_ok-follow.ensures.kept c.follow.new.newest g.F.Follower.objects c.args.events.now (record {
      applied = c.in_ok-follow.ensures.follows;
      grows = c.history_objects.ensures.grows;
      counts = c.history_objects.ensures.counts;
    }) h pins (subst (λ v. StandsFor g.F.Follower.objects v h pins) (sym c.self.view_is) stands)
