use Rattle.std.proofs.Common.{◌≡◌, true}
use Rattle.std.specs.List.{AllWithin}
use Rattle.std.specs.Ordering.{is_lt}
use Rattle.touched_ways.proofs.lists.first_from.Given as goal

-- the numbers so far are below
abbrev pub invariant-loop-at : goal.invariant-loop-at
invariant-loop-at g l = AllWithin (λ a. is_lt (g.T.Ord.cmp a l.number) ≡ true) l.list l.low l.at
