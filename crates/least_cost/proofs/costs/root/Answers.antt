use Rattle.std.proofs.Common.{sym}
use Rattle.least_cost.proofs.CostRoots.{root_is}
use Rattle.least_cost.proofs.costs.root.Goals as goal

pub returns-then-n-next-clause-is : goal.returns-then-n-next-clause-is
returns-then-n-next-clause-is c = sym (root_is c.args.n c.guessed_root-guess.result c.if-guess-n.true c.if-n-next.true)

pub returns-else-guess-n-clause-is : goal.returns-else-guess-n-clause-is
returns-else-guess-n-clause-is c = sym (root_is _ _ c.isqrt.ensures.square_le c.isqrt.ensures.next_square_gt)
