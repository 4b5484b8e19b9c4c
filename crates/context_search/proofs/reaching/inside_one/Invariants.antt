use Rattle.std.proofs.Common.{◌≡◌, ◌≤◌, Some, Contains, take}
use Rattle.context_search.specs.declared.ends.Begin.{Begin}
use Rattle.context_search.specs.declared.ends.Goal.{Goal}
use Rattle.context_search.specs.Visits.{goal_in}
use Rattle.context_search.proofs.reaching.inside_one.Given as goal

-- none of the starts so far has a goal behind it
abbrev pub invariant-loop-start : goal.invariant-loop-start
invariant-loop-start l = (s : Begin) (g : Goal) → Contains (take l.start-index l.starts) s
    → goal_in l.goals s.piece.now.name ≡ Some g → s.first ≤ g.last → ⊥
