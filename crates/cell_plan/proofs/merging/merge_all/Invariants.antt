use Rattle.std.proofs.Common.{◌≡◌, ◌≤◌, ◌+◌, ℕ, Bool, take, drop}
use Rattle.cell_plan.specs.Sums.{tallied}
use Rattle.cell_plan.proofs.merging.merge_all.Given as goal

-- what is kept and what is to come sum up to what all did
abbrev pub invariant-loop-next : goal.invariant-loop-next
invariant-loop-next l = record {
  kept : l.kept ≤ l.next;
  sum : (wanted : ℕ → ℕ → Bool) → tallied wanted (take l.kept l.tallies) + tallied wanted (drop l.next l.tallies)
      ≡ tallied wanted l.initial.tallies;
}
