use Rattle.graph_file.proofs.LookUps.{named_way, only_named}
use Rattle.graph_file.proofs.look_ups.piece_named.Goals as goal

pub returns-in-Some-clause-only : goal.returns-in-Some-clause-only
returns-in-Some-clause-only c =
    only_named c.args.blocks.now c.requires.ascend c.requires.ordered c.args.name c.in-Some.block.now
    c.in-Some.ensures.among c.in-Some.ensures.way c.items.result.now c.items.ensures c.piece_among.result
    c.piece_among.ensures.among c.piece_among.ensures.named c.piece_among.ensures.none

pub returns-in-None-clause-only : goal.returns-in-None-clause-only
returns-in-None-clause-only c = λ p h.
    absurd (c.in-None.ensures.none h.stands.block h.stands.in_file
    (named_way c.args.blocks.now c.requires.ordered c.args.name p h))
