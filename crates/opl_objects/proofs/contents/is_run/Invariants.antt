use Rattle.std.proofs.Common.{◌≡◌, true, take}
use Rattle.opl_lexer.specs.Contents.{is_run}
use Rattle.opl_objects.proofs.contents.is_run.Given as goal

abbrev pub invariant-loop-at : goal.invariant-loop-at
invariant-loop-at l = is_run (take l.at l.bytes) ≡ true
