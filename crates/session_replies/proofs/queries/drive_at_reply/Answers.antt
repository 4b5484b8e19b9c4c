use Rattle.std.proofs.Common.{◌≡◌, ◌∙◌, ℕ, IfOk, ap, sym, subst}
use Rattle.road_base.specs.Objects.{Objects}
use Rattle.road_base.specs.Profiles.{IsProfile}
use Rattle.moment_rules.specs.declared.moment.Moment.{Moment}
use Rattle.moment_rules.specs.AtMoment.{rules_at}
use Rattle.session_answers.specs.Said.{said}
use Rattle.session_replies.specs.Replies.{IsDriveReply}
use Rattle.session_replies.proofs.queries.drive_at_reply.Goals as goal

pub new-profile-requires : goal.new-profile-requires
new-profile-requires g c =
    let R = g.P.Profile.rules in
    subst (λ (n : ℕ). IsProfile n) (sym (c.number.ensures ∙ ap (λ p. (R p).number) c.profile.ensures))
    c.requires.number

pub returns : goal.returns
returns g c =
    let R = g.P.Profile.rules in
    let M = c.args.engine.now.world in
    let drive = c.args.drive.now in
    let reply = c.judged_reply.result in
    let made = c.new-profile.result in
    let number : made.profile ≡ (R c.args.engine.now.profile).number =
    c.new-profile.ensures.profile ∙ (c.number.ensures ∙ ap (λ p. (R p).number) c.profile.ensures) in
    subst (λ (n : ℕ). IfOk reply (λ r. IsDriveReply M (rules_at n c.args.moment) drive (said r))) number
    (subst (λ (m : Moment). IfOk reply (λ r. IsDriveReply M (rules_at made.profile m) drive (said r)))
    c.new-profile.ensures.at
    (subst (λ (O : Objects). IfOk reply (λ r. IsDriveReply O (rules_at made.profile made.at) drive (said r)))
    c.world.ensures c.judged_reply.ensures))
