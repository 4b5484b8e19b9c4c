use Rattle.std.proofs.Common.{arith}
use Rattle.std.proofs.Math.Facts.{Fits-of_lt}
use Rattle.graph_file.proofs.Appends.{third}
use Rattle.graph_file.proofs.PieceCount.{few_pieces}
use Rattle.graph_file.proofs.pieces.GraphFileFormatBlock.put.Goals as goal

pub overflow_cast-pieces : goal.overflow_cast-pieces
overflow_cast-pieces g c = rw c.items-pieces.ensures
    (Fits-of_lt (omega (arith, few_pieces g.G.Grammar.sourced _ c.requires.ascend c.requires.pieces)))

pub returns-clause-ok : goal.returns-clause-ok
returns-clause-ok g c =
    rw (← c.items-pieces.ensures) (third c.put_all.result _ _ _ _ _ _ _ c.in_ok-put.ensures.ok c.in_ok-put-2.ensures.ok
    c.put_all.ensures.ok)
