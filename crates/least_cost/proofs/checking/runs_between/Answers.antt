use Rattle.std.proofs.Common.{◌∙◌, sym, arith}
use Rattle.least_cost.proofs.CheckRoutes.{filled, leads_by, tail_of_drive, head_of_drive}
use Rattle.least_cost.proofs.checking.runs_between.Goals as goal

pub step_of-first-requires : goal.step_of-first-requires
step_of-first-requires g c = filled c.args.drive.now c.requires

pub overflow_sub-drive : goal.overflow_sub-drive
overflow_sub-drive g c = let h = filled c.args.drive.now c.requires in omega arith

pub step_of-last-requires : goal.step_of-last-requires
step_of-last-requires g c = let h = filled c.args.drive.now c.requires in omega arith

pub returns-then-begins-clause-yes : goal.returns-then-begins-clause-yes
returns-then-begins-clause-yes g c t_is legal =
    let M = g.M.World.objects c.args.network.now.world.now in
    let P = g.P.Profile.rules c.args.network.now.profile in
    let d = c.args.drive.now in
    let last = c.step_of-last in
    let at = last.ensures in
    leads_by M P c.args.a c.args.b d c.step_of-first.result last.result c.step_of-first.ensures at
    (sym c.tail.ensures ∙ c.is_node-begins.ensures.yes c.if-begins.true)
    (sym c.head.ensures ∙ c.is_node-ends.ensures.yes t_is) legal

pub returns-then-begins-clause-no : goal.returns-then-begins-clause-no
returns-then-begins-clause-no g c f_is l =
    let M = g.M.World.objects c.args.network.now.world.now in
    let P = g.P.Profile.rules c.args.network.now.profile in
    let d = c.args.drive.now in
    let last = c.step_of-last in
    let at = last.ensures in
    c.is_node-ends.ensures.no f_is (c.head.ensures ∙ head_of_drive M P c.args.a c.args.b d c.step_of-first.result
    last.result c.step_of-first.ensures at l)

pub returns-else-begins-clause-no : goal.returns-else-begins-clause-no
returns-else-begins-clause-no g c f_is l =
    let M = g.M.World.objects c.args.network.now.world.now in
    let P = g.P.Profile.rules c.args.network.now.profile in
    let d = c.args.drive.now in
    let last = c.step_of-last in
    let at = last.ensures in
    c.is_node-begins.ensures.no c.if-begins.false (c.tail.ensures ∙ tail_of_drive M P c.args.a c.args.b d
    c.step_of-first.result last.result c.step_of-first.ensures at l)
