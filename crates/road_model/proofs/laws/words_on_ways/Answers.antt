use Rattle.road_model.proofs.WordMembers.{on_members}
use Rattle.road_model.proofs.ShortWords.{short_word}
use Rattle.road_model.proofs.laws.words_on_ways.Goals as goal

pub returns-clause-members : goal.returns-clause-members
returns-clause-members g c M r only binding u s w h = on_members M _ r only binding u w s h

pub returns-clause-long : goal.returns-clause-long
returns-clause-long g c M r only binding u w = (w.first, w.via, w.last, w.spelled)

pub returns-clause-short : goal.returns-clause-short
returns-clause-short g c M r only binding u w = short_word M _ r only binding u w
