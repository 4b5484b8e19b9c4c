use Rattle.std.proofs.Common.{arith}
use Rattle.graph_merge.proofs.FrontFiles.{count_short}
use Rattle.graph_merge.proofs.collecting.collect_rest.Goals as goal

-- each file has a byte at least, and something is left
pub overflow_add-result : goal.overflow_add-result
overflow_add-result c =
    let short = count_short c.loop-rest.count c.loop-rest.collected c.args.bytes.now c.loop-rest.rest.now
    c.loop-rest.invariant in
    omega (arith, short, c.loop-rest-test.true)

pub overflow_add-count : goal.overflow_add-count
overflow_add-count c =
    let short = count_short c.loop-rest.count c.loop-rest.collected c.args.bytes.now c.loop-rest.rest.now
    c.loop-rest.invariant in
    omega (arith, short, c.loop-rest-test.true)
