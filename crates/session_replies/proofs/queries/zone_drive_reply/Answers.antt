use Rattle.std.proofs.Common.{IfOk, subst}
use Rattle.road_base.specs.Objects.{Objects}
use Rattle.session_answers.specs.Said.{said}
use Rattle.session_replies.specs.Replies.{IsZoneDriveReply}
use Rattle.session_replies.proofs.queries.zone_drive_reply.Goals as goal

pub returns : goal.returns
returns g c =
    let R = g.P.Profile.rules in
    let reply = c.zones_judged_reply.result in
    let drive = c.args.drive.now in
    subst (λ p. IfOk reply (λ r. IsZoneDriveReply c.args.engine.now.world (R p) drive (said r))) c.profile.ensures
    (subst (λ (M : Objects). IfOk reply (λ r. IsZoneDriveReply M (R c.profile.result) drive (said r)))
    c.world.ensures c.zones_judged_reply.ensures)
