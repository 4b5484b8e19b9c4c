-- The line of a way is that of its references, and a way that isn't visible has none.
use Rattle.std.proofs.Common.{option_copied, sym, ◌∙◌, ap}
use Rattle.drive_judging.proofs.DriveLines.{line_visible, line_hidden}
use Rattle.drive_judging.proofs.drive_lines.line_of.Goals as goal

pub returns-in_ok-nodes_of-in-Some : goal.returns-in_ok-nodes_of-in-Some
returns-in_ok-nodes_of-in-Some g c =
    let M = g.M.World.objects c.args.world.now in
    c.in_ok-nodes_of-in-Some.ensures.nodes
    ∙ sym (line_visible M c.args.way c.in-Some.body.now (sym c.way.ensures ∙ ap option_copied c.in-Some.is))

pub returns-in-None : goal.returns-in-None
returns-in-None g c =
    let M = g.M.World.objects c.args.world.now in
    c.new.ensures.items ∙ sym (line_hidden M c.args.way (sym c.way.ensures ∙ ap option_copied c.in-None.is))
