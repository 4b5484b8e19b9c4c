use Rattle.std.proofs.Common.{sym, subst}
use Rattle.session_replies.specs.declared.zone_verdicts.ZoneVerdict.{ZoneVerdict}
use Rattle.session_replies.specs.ZoneVerdicts.{IsZoneVerdict}
use Rattle.session_replies.proofs.ZoneSteps.{judged_alone, judged_within, judged_through}
use Rattle.session_replies.proofs.zone_verdicts.judge_zones.Goals as goal

pub returns-in_default : goal.returns-in_default
returns-in_default g c =
    let M = g.M.World.objects c.args.world.now in
    let P = g.P.Profile.rules c.args.profile.now in
    subst (λ (v : ZoneVerdict). IsZoneVerdict M P c.args.drive.now v) (sym c.judged.ensures)
    (judged_alone M P c.args.drive.now c.requires.some (c.drive_parts.ensures M) c.args.verdict c.requires.judged
    c.in_default.ensures.none)

pub returns-then-breaks_within : goal.returns-then-breaks_within
returns-then-breaks_within g c =
    let M = g.M.World.objects c.args.world.now in
    let P = g.P.Profile.rules c.args.profile.now in
    subst (λ (v : ZoneVerdict). IsZoneVerdict M P c.args.drive.now v) (sym c.judged-then-breaks_within.ensures)
    (judged_within M P c.args.drive.now c.requires.some (c.drive_parts.ensures M) c.args.verdict c.requires.judged
    c.in-Some.step (c.breaks_within.ensures.0 c.if-breaks_within.true) c.in-Some.ensures.least)

pub returns : goal.returns
returns g c =
    let M = g.M.World.objects c.args.world.now in
    let P = g.P.Profile.rules c.args.profile.now in
    judged_through M P c.args.drive.now c.requires.some (c.drive_parts.ensures M) c.args.verdict c.requires.judged
    c.in-Some.step (λ within. let yes = c.breaks_within.ensures.1 within in let not = c.if-breaks_within.false in cc)
    c.in-Some.ensures.some c.in-Some.ensures.least
