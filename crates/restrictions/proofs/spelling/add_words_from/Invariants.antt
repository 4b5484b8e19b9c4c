use Rattle.std.proofs.Common.{◌≡◌, ◌++◌, take}
use Rattle.restrictions.specs.Spelling.{words_from}
use Rattle.restrictions.proofs.spelling.add_words_from.Given as goal

-- the words to the steps so far
abbrev pub invariant-loop-last : goal.invariant-loop-last
invariant-loop-last l = l.words.items ≡ l.initial.words.items
    ++ words_from l.rule l.first l.via (take l.last-index l.lasts)
