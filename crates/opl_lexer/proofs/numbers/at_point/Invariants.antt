use Rattle.std.proofs.Common.{◌≡◌, ◌<◌, ◌==◌, ℕ, slice_index, false}
use Rattle.opl_lexer.proofs.numbers.at_point.Given as goal

abbrev pub invariant-loop-at : goal.invariant-loop-at
invariant-loop-at l = (j : ℕ) → j < l.at → (slice_index l.bytes j == 46) ≡ false
