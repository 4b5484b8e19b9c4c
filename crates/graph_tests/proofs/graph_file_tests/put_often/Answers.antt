use Rattle.std.proofs.Common.{sym, subst}
use Rattle.road_model.specs.Format.{is_sourced, IsBlockForm}
use Rattle.graph_tests.proofs.graph_file_tests.put_often.Goals as goal

pub put-requires : goal.put-requires
put-requires c = subst (λ v. IsBlockForm (is_sourced v) c.args.block.now) (sym c.loop.invariant) c.requires
