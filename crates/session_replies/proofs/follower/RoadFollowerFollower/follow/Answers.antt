use mathlib.Core.HLevel.{is_prop→PathP}
use mathlib.Core.Bool.{Bool-set}
use Rattle.std.proofs.Common.{◌≡◌, true, Result, Ok, Err, OnErr}
use Rattle.road_base.specs.Profiles.{is_profile_number}
use Rattle.session_replies.proofs.FollowedChanges.{followed_costs}
use Rattle.session_replies.proofs.follower.RoadFollowerFollower.follow.Goals as goal

at_err : {T E : Type 0} {A : Type 0} (r : Result T E) → A → OnErr r A
at_err (Ok x) a = tt
at_err (Err x) a = a

-- of two values made alike, each with a fact of its part, the part tells them apart
same_made : {A F : Type 0} {K : A → Type 0} (make : (a : A) → K a → F) → ((a : A) → IsProp (K a)) → (a b : A)
    → a ≡ b → (k : K a) (l : K b) → make a k ≡ make b l
same_made {K = K} make one a b e k l = λ i. make (e i) (is_prop→PathP (λ j. K (e j)) (λ j. one (e j)) k l i)

pub returns-in_err-follow-clause-err : goal.returns-in_err-follow-clause-err
returns-in_err-follow-clause-err g c =
    let R = g.P.Profile.rules in
    let before = c.args.self.now in
    at_err c.from_residual.result (same_made
    (λ engine known. record { alloc = before.alloc; engine = engine; known = known })
    (λ engine. Bool-set (is_profile_number (R engine.profile).number) true)
    c.follow.new.self before.engine c.in_err-follow.ensures.err _ before.known)

pub returns-in_err-follow-clause-few : goal.returns-in_err-follow-clause-few
returns-in_err-follow-clause-few g c =
    followed_costs c.args.self.now.engine.world c.args.events.now c.args.steps.now c.follow.new.steps
    c.follow.ensures.built

pub returns-clause-few : goal.returns-clause-few
returns-clause-few g c =
    followed_costs c.args.self.now.engine.world c.args.events.now c.args.steps.now c.follow.new.steps
    c.follow.ensures.built
