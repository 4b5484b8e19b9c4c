use Rattle.cell_check.proofs.ClosedKeys.{members_where}
use Rattle.cell_check.proofs.closing.has_its_members.Goals as goal

pub returns-in-Some : goal.returns-in-Some
returns-in-Some c =
    members_where c.args.world.now c.args.rule c.in-Some.body.now c.items.result.now c.are_there.result
    c.in-Some.ensures c.items.ensures.items c.are_there.ensures
