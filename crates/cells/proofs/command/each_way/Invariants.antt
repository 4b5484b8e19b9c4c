use Rattle.std.proofs.Common.{◌≡◌, take, map, Some}
use Rattle.cells.specs.Commands.{each_way}
use Rattle.cells.proofs.command.each_way.Given as goal

-- the numbers of the words so far
abbrev pub invariant-loop-word : goal.invariant-loop-word
invariant-loop-word l = each_way (take l.word-index (map (λ w. w.now) l.words)) ≡ Some l.list.items
