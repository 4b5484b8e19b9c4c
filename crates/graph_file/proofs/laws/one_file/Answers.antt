use Rattle.graph_file.proofs.GraphFiles.{one_file}
use Rattle.graph_file.proofs.laws.one_file.Goals as goal

pub returns : goal.returns
returns c = one_file
