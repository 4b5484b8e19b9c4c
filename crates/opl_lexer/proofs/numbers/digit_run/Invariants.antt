use Rattle.std.proofs.Common.{◌<◌, ℕ, slice_index}
use Rattle.std.specs.Char.{digit_value}
use Rattle.opl_lexer.proofs.numbers.digit_run.Given as goal

abbrev pub invariant-loop-at : goal.invariant-loop-at
invariant-loop-at l = (k : ℕ) → k < l.at → digit_value (slice_index l.bytes k) < 10
