use Rattle.graph_file.proofs.GraphFiles.{one_front}
use Rattle.graph_file.proofs.laws.one_front.Goals as goal

pub returns : goal.returns
returns c = one_front
