-- No cause before the one that is found holds.
use Rattle.std.proofs.Common.{sym, ◌∙◌}
use Rattle.restrictions.proofs.FirstCauses.{misfit_first, closed_first}
use Rattle.restrictions.proofs.first_cause.order_of_members.Goals as goal

pub returns-in-Err-clause-cause : goal.returns-in-Err-clause-cause
returns-in-Err-clause-cause g c =
    let M = g.M.World.objects c.args.network.now.world.now in
    let P = g.P.Profile.rules c.args.network.now.profile in
    misfit_first M P c.args.roles.now.body.now c.args.only c.requires
    (sym c.wrong_members.ensures ∙ c.if-wrong_members.false) (sym c.lacks_member.ensures ∙ c.if-lacks_member.false)
    c.in-Err.cause c.in-Err.ensures.cause

pub returns-then-is_closed-clause-cause : goal.returns-then-is_closed-clause-cause
returns-then-is_closed-clause-cause g c =
    let M = g.M.World.objects c.args.network.now.world.now in
    let P = g.P.Profile.rules c.args.network.now.profile in
    closed_first M P c.args.roles.now.body.now c.args.only c.requires
    (sym c.wrong_members.ensures ∙ c.if-wrong_members.false) (sym c.lacks_member.ensures ∙ c.if-lacks_member.false)
    c.in-Ok.order.now c.in-Ok.ensures.order c.in-Ok.ensures.fits (sym c.is_closed.ensures ∙ c.if-is_closed.true)
