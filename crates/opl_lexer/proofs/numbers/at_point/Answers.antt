use Rattle.std.proofs.Common.{arith, ◌≡◌, [], ap, ◌∙◌, drop, slice_index}
use Rattle.opl_lexer.specs.Parts.{parts}
use Rattle.opl_lexer.proofs.Cuts.{parts_here, parts_nowhere}
use Rattle.opl_lexer.proofs.numbers.at_point.Goals as goal

pub returns-then-bytes-at-eq46-clause-cut : goal.returns-then-bytes-at-eq46-clause-cut
returns-then-bytes-at-eq46-clause-cut c =
    let point : slice_index c.args.bytes.now c.loop-at.at ≡ 46 = omega arith in
    let behind = c.split_at-then-bytes-at-eq46.ensures.back ∙ ap (drop 1) c.split_at.ensures.back in
    rw (c.split_at.ensures.front, behind) (parts_here 46 c.args.bytes.now c.loop-at.at c.loop-at-test.true
    c.loop-at.invariant point)

pub returns-then-bytes-at-eq46-clause-first : goal.returns-then-bytes-at-eq46-clause-first
returns-then-bytes-at-eq46-clause-first c =
    (parts 46 c.split_at-then-bytes-at-eq46.result.1.now, returns-then-bytes-at-eq46-clause-cut c)

pub returns-clause-whole : goal.returns-clause-whole
returns-clause-whole c = parts_nowhere 46 c.args.bytes.now (λ j h. c.loop-at.invariant j (omega arith))

pub returns-clause-first : goal.returns-clause-first
returns-clause-first c = ([], returns-clause-whole c)
