use Rattle.std.proofs.Common.{take}
use Rattle.drive_judging.specs.DriveWords.{AreWordsOn}
use Rattle.drive_judging.proofs.word_table.words_of.Given as goal

-- the words of the restrictions so far
abbrev pub invariant-loop-relation : goal.invariant-loop-relation
invariant-loop-relation g l =
    AreWordsOn (g.M.World.objects l.network.world.now) (g.P.Profile.rules l.network.profile) l.steps
    (take l.relation-index l.relations) l.list.items
