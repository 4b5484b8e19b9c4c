use Rattle.std.proofs.Common.{sym, ◌∙◌}
use Rattle.graph_blocks.specs.Lent.{map_of}
use Rattle.change_apply.specs.Standing.{built_in}
use Rattle.change_apply.proofs.KnownBlocks.{known_newest}
use Rattle.change_apply.proofs.known.StandingButKnownBlocks.known.Goals as goal

pub returns : goal.returns
returns c =
    let s = c.args.self.now in
    let ties = c.name_order.ensures.way_ties in
    let listed = map_of s.standing.blocks.now in
    c.newest.ensures
    ∙ sym (known_newest ties s.but.now (built_in s.standing) listed c.args.way c.is_among.result c.is_among.ensures
    c.if-is_among.false)
