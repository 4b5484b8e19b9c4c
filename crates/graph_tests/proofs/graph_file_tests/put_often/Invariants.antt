use Rattle.std.proofs.Common.{◌≡◌}
use Rattle.graph_tests.proofs.graph_file_tests.put_often.Given as goal

-- the file is of its version
abbrev pub invariant-loop : goal.invariant-loop
invariant-loop l = l.file.version ≡ l.fn.file.version
