use Rattle.std.proofs.Common.{◌≡◌, ◌<◌, ℕ, slice_index, false}
use Rattle.opl_lexer.specs.Fields.{is_blank}
use Rattle.opl_lexer.proofs.field_iter.short_run.Given as goal

abbrev pub invariant-loop-at : goal.invariant-loop-at
invariant-loop-at l = (k : ℕ) → k < l.at → is_blank (slice_index l.bytes k) ≡ false
