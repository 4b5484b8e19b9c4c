use Rattle.std.proofs.Common.{◌≡◌, ◌≤◌, length}
use Rattle.turn_automata.specs.FailureLinks.{AreFailureLinks, Descends}
use Rattle.turn_automata.proofs.failure_links.failure_links_of.Given as goal

-- the links of the lists so far
abbrev pub invariant-loop-list : goal.invariant-loop-list
invariant-loop-list l = record {
  low : 1 ≤ l.list;
  len : length l.links.items ≡ l.list;
  descends : Descends l.links.items;
  links : AreFailureLinks l.tree l.links.items;
}
