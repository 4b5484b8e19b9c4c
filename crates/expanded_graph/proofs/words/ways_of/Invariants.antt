use Rattle.std.proofs.Common.{◌⊎◌, Contains, take}
use Rattle.road_base.specs.declared.ids.WayId.{WayId}
use Rattle.restrictions.specs.declared.word_list.Word.{Word}
use Rattle.expanded_graph.specs.Near.{HasStepOn}
use Rattle.expanded_graph.proofs.words.ways_of.Given as goal

-- the ways of the words so far are there or known
abbrev pub invariant-loop-word : goal.invariant-loop-word
invariant-loop-word l =
    (u : Word) (w : WayId) → Contains (take l.word-index l.words) u → HasStepOn w u.steps
    → Contains l.known w ⊎ Contains l.list.items w
