use Rattle.std.proofs.Common.{◌≡◌, ◌+◌, ◌≤◌, ◌++◌, length, drop}
use Rattle.std.specs.Fmt.{decimal}
use Rattle.reply_lines.proofs.digits.put_decimal.Given as goal

abbrev pub invariant-loop-left : goal.invariant-loop-left
invariant-loop-left l = record {
  space : length (decimal l.left) ≤ l.start;
  before : l.start ≤ l.end;
  near : l.end + length (decimal l.left) ≤ l.start + 20;
  written : decimal l.left ++ drop l.start l.room ≡ decimal l.number ++ drop l.end l.fn.room;
}

abbrev pub decreases-loop-left : goal.decreases-loop-left
decreases-loop-left l = l.left
