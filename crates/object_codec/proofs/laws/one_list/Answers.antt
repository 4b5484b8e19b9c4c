use Rattle.object_codec.specs.OneSpelling.{one_list}
use Rattle.object_codec.proofs.laws.one_list.Goals as goal

pub returns : goal.returns
returns c = one_list
