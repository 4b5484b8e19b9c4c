use Rattle.graph_file.proofs.Appends.{kept}
use Rattle.graph_file.proofs.pieces.GraphFileFormatContext.put.Goals as goal

pub returns-clause-err : goal.returns-clause-err
returns-clause-err g c =
    kept c.put-3.result _ _ _ _ _ _ _ _ _ _ c.in_ok-put.ensures.ok c.in_ok-put_all.ensures.ok
    c.in_ok-put-2.ensures.ok c.in_ok-put_all-2.ensures.ok c.put-3.ensures.err
