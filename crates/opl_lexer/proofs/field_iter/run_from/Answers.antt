use Rattle.std.proofs.Common.{arith, ap, ◌∙◌, ◌≡◌, ◌-◌, length, length-drop}
use Rattle.opl_lexer.proofs.FieldRuns.{solid_more}
use Rattle.opl_lexer.proofs.field_iter.run_from.Goals as goal

pub loop-at-preserved : goal.loop-at-preserved
loop-at-preserved c =
    let bytes = c.args.bytes.now in
    let before = c.loop-at.invariant in
    let more = c.step-step.ensures in
    let left : length c.split_at.result.1.now ≡ length bytes - c.loop-at.at = ap length c.split_at.ensures.back
    ∙ length-drop c.loop-at.at bytes in
    record {
      inside = omega (arith, more.bound);
      solid = solid_more bytes c.loop-at.at c.step-step.result before.solid (rw c.split_at.ensures.back at more.solid);
    }
