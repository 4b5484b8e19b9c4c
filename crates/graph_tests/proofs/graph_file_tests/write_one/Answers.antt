use Rattle.road_model.specs.Format.{is_sourced}
use Rattle.graph_file.proofs.Files.{forms_of_one}
use Rattle.graph_tests.proofs.graph_file_tests.write_one.Goals as goal

pub write-requires-clause-forms : goal.write-requires-clause-forms
write-requires-clause-forms c =
    forms_of_one (is_sourced c.args.version) _ _ _ c.new-blocks.ensures c.in_ok-insert.ensures.ok c.requires.form
