use Rattle.std.proofs.Common.{◌≡◌, ◌∙◌, ◌⊎◌, ◌+◌, ℕ, ap, subst, sym, arith}
use Rattle.std.specs.Prelude.{IsSome}
use Rattle.std.specs.FinMap.{get, len}
use Rattle.pinned_readers.specs.PinnedRuns.{IsPinnedNumber}
use Rattle.pinned_readers.specs.Followers.{held}
use Rattle.pinned_readers.proofs.HeldFollowers.{followers, held_count, held_needed, needed_held}
use Rattle.pinned_readers.proofs.HeldCounts.{few_older}
use Rattle.pinned_readers.proofs.readers.Readers.kept.Goals as goal

pub returns-clause-count : goal.returns-clause-count
returns-clause-count g c =
    subst (λ v. c.len.result + 1 ≡ len (held v)) c.self.view_is
    (ap (λ n. n + 1) c.len.ensures.count ∙ sym (held_count g.F.Follower.fixed
    (followers c.self.inside.number.0 c.self.inside.newest c.self.inside.older c.self.inside.pins) c.self.invariant))

pub returns-clause-needed : goal.returns-clause-needed
returns-clause-needed g c =
    let s = followers c.self.inside.number.0 c.self.inside.newest c.self.inside.older c.self.inside.pins in
    subst (λ v. (n : ℕ) → (IsSome (get (held v) n) → (n ≡ v.number) ⊎ IsPinnedNumber v.pins n)
    × ((n ≡ v.number) ⊎ IsPinnedNumber v.pins n → IsSome (get (held v) n))) c.self.view_is
    (λ n. (held_needed g.F.Follower.fixed s c.self.invariant n, needed_held g.F.Follower.fixed s c.self.invariant n))

pub returns-clause-few : goal.returns-clause-few
returns-clause-few g c =
    let count = c.len.ensures.count in
    let few = few_older g.F.Follower.fixed
    (followers c.self.inside.number.0 c.self.inside.newest c.self.inside.older c.self.inside.pins) c.self.invariant in
    omega (arith, count, few)
