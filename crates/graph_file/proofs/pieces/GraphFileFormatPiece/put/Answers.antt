use Rattle.graph_file.proofs.Appends.{all_any}
use Rattle.graph_file.proofs.pieces.GraphFileFormatPiece.put.Goals as goal

pub put_all-requires : goal.put_all-requires
put_all-requires g c = all_any _
