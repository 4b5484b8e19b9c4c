use Rattle.std.proofs.Common.{◌≡◌, ◌∙◌, ap, subst, sym}
use Rattle.std.specs.Prelude.{Some, IsSome}
use Rattle.std.specs.Option.{option_copied}
use Rattle.std.specs.FinMap.{get}
use Rattle.pinned_readers.specs.Followers.{held}
use Rattle.pinned_readers.proofs.HeldFollowers.{followers, held_older, held_rest}
use Rattle.pinned_readers.proofs.readers.Readers.follower.Goals as goal

pub returns-in-Some-clause-held : goal.returns-in-Some-clause-held
returns-in-Some-clause-held g c =
    subst (λ v. get (held v) c.args.number.0 ≡ Some c.in-Some.follower.now) c.self.view_is
    (held_older g.F.Follower.fixed
    (followers c.self.inside.number.0 c.self.inside.newest c.self.inside.older c.self.inside.pins) c.self.invariant
    c.args.number.0 c.in-Some.follower.now (sym c.get.ensures ∙ ap option_copied c.in-Some.is))

pub returns-in-None-clause-held : goal.returns-in-None-clause-held
returns-in-None-clause-held g c =
    subst (λ v. get (held v) c.args.number.0 ≡ Some c.self.inside.newest) c.self.view_is
    (held_rest g.F.Follower.fixed
    (followers c.self.inside.number.0 c.self.inside.newest c.self.inside.older c.self.inside.pins) c.self.invariant
    c.args.number.0 (sym c.get.ensures ∙ ap option_copied c.in-None.is)
    (subst (λ v. IsSome (get (held v) c.args.number.0)) (sym c.self.view_is) c.requires))
