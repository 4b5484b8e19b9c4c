use Rattle.std.proofs.Common.{◌≡◌, ◌++◌, take}
use Rattle.restrictions.specs.Spelling.{words_by}
use Rattle.restrictions.proofs.spelling.add_words_at.Given as goal

-- the words from the steps so far
abbrev pub invariant-loop-first : goal.invariant-loop-first
invariant-loop-first g l = l.words.items ≡ l.initial.words.items
    ++ words_by l.rule (take l.first-index l.first-items) l.via l.lasts.items
