use Rattle.std.proofs.Common.{◌≡◌, ◌-◌, drop}
use Rattle.ordered_lists.specs.Orders.{rises}
use Rattle.graph_file.proofs.ascending.do_ascend.Given as goal

-- all ascend where they do from the last one looked at on
abbrev pub invariant-loop-at : goal.invariant-loop-at
invariant-loop-at g l = rises g.T.Ascending.order l.items ≡ rises g.T.Ascending.order (drop (l.at - 1) l.items)
