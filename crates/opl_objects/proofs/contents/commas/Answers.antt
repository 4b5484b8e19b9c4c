use Rattle.std.proofs.Common.{arith, ◌≤◌, ◌+◌, ◌==◌, length, sym, ◌∙◌, ap}
use Rattle.std.specs.List.{count_by}
use Rattle.std.proofs.lemmas.List.{take_all}
use Rattle.std.proofs.lemmas.List.Splits.{length-slice_split}
use Rattle.opl_objects.proofs.contents.commas.Goals as goal

pub returns : goal.returns
returns c =
    let text = c.args.text.now in
    let counted = rw c.as_bytes-bytes.ensures.value at c.loop-at.invariant.counted in
    let past : length text ≤ c.loop-at.at = omega arith in
    ap (λ n. n + 1) (counted ∙ ap (count_by (λ b. b == 44)) (take_all c.loop-at.at text past))
    ∙ sym (length-slice_split (λ b. b == 44) text)
