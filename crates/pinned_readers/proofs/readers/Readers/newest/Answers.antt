use Rattle.std.proofs.Common.{subst, sym}
use Rattle.pinned_readers.specs.Followers.{StandsFor}
use Rattle.pinned_readers.proofs.HeldFollowers.{followers, newest_objects}
use Rattle.pinned_readers.proofs.readers.Readers.newest.Goals as goal

pub returns-clause-stands : goal.returns-clause-stands
returns-clause-stands g c = λ h pins stands.
    newest_objects g.F.Follower.objects
    (followers c.self.inside.number.0 c.self.inside.newest c.self.inside.older c.self.inside.pins) h pins
    (subst (λ v. StandsFor g.F.Follower.objects v h pins) (sym c.self.view_is) stands)
