use Rattle.std.proofs.Common.{length}
use Rattle.conversation_tests.proofs.session_input_tests.take_all.Given as goal

-- each turn takes a byte at least
abbrev pub decreases-loop-rest : goal.decreases-loop-rest
decreases-loop-rest l = length l.rest
