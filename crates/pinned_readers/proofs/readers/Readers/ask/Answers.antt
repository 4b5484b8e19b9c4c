use Rattle.std.proofs.Common.{subst}
use Rattle.std.specs.Prelude.{IsSome}
use Rattle.std.specs.FinMap.{get}
use Rattle.pinned_readers.specs.PinnedRuns.{IsPinnedAt}
use Rattle.pinned_readers.specs.Followers.{held}
use Rattle.pinned_readers.proofs.HeldFollowers.{followers, held_pinned}
use Rattle.pinned_readers.proofs.PinSteps.{pinned_from, asked}
use Rattle.pinned_readers.proofs.readers.Readers.ask.Goals as goal

pub follower-requires : goal.follower-requires
follower-requires g c =
    subst (λ v. IsSome (get (held v) c.in-Some.number.0)) c.self.view_is
    (held_pinned g.F.Follower.fixed
    (followers c.self.inside.number.0 c.self.inside.newest c.self.inside.older c.self.inside.pins) c.self.invariant
    c.args.reader c.in-Some.number.0
    (pinned_from c.self.inside.pins c.args.reader c.get.result c.in-Some.number c.get.ensures c.in-Some.is))

pub returns-in-Ok-clause-reply : goal.returns-in-Ok-clause-reply
returns-in-Ok-clause-reply g c =
    let r = c.in-Ok.ensures.reply in
    let number = c.in-Some.number in (
      r.0,
      r.2,
      asked g.F.Follower.fixed g.F.Follower.objects g.F.Follower.replies c.args.self.now c.args.reader number.0
          c.follower.result.now c.args.question.now r.0
          (subst (λ v. IsPinnedAt v.pins c.args.reader number.0) c.self.view_is
          (pinned_from c.self.inside.pins c.args.reader c.get.result number c.get.ensures c.in-Some.is))
          c.follower.ensures.held c.follower.ensures.fixed r.1,
    )
