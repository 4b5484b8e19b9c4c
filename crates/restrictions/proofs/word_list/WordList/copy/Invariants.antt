use Rattle.std.proofs.Common.{◌≡◌, take}
use Rattle.restrictions.proofs.word_list.WordList.copy.Given as goal

abbrev pub invariant-loop-item : goal.invariant-loop-item
invariant-loop-item l = l.list.items ≡ take l.item-index l.from
