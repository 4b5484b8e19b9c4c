use Rattle.std.proofs.Common.{◌≡◌, ◌<◌, ◌≤◌, ◌-◌, ℕ, length, slice_index, false}
use Rattle.opl_lexer.specs.Fields.{is_blank}
use Rattle.opl_lexer.proofs.field_iter.run_from.Given as goal

abbrev pub invariant-loop-at : goal.invariant-loop-at
invariant-loop-at l = record {
  inside : l.at ≤ length l.bytes;
  solid : (k : ℕ) → k < l.at → is_blank (slice_index l.bytes k) ≡ false;
}

abbrev pub decreases-loop-at : goal.decreases-loop-at
decreases-loop-at l = length l.bytes - l.at
