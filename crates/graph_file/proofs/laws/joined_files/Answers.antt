use Rattle.graph_file.proofs.JoinedFiles.{joined_files}
use Rattle.graph_file.proofs.laws.joined_files.Goals as goal

pub returns : goal.returns
returns c = joined_files
