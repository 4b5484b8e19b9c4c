use Rattle.std.proofs.Common.{◌≡◌, ◌+◌, ◌<◌, ◌≤◌, List, length}
use Rattle.road_base.specs.declared.ids.Step.{Step}
use Rattle.turn_automata.specs.Trees.{Stands}
use Rattle.turn_automata.proofs.tree.list_len.Given as goal

-- the list is that of the number that is left, and so many steps behind it
abbrev pub invariant-loop-rest : goal.invariant-loop-rest
invariant-loop-rest l = record {
  within : l.rest < length l.tree;
  fits : l.len + l.rest ≤ l.list;
  steps : (p : List Step) → Stands l.tree l.list p
      → (q : List Step) × Stands l.tree l.rest q × (length p ≡ length q + l.len);
}

abbrev pub decreases-loop-rest : goal.decreases-loop-rest
decreases-loop-rest l = l.rest
