use Rattle.road_model.proofs.WalkLists.{without_last, longest_of_any, one_longest, next_context, one_alone}
use Rattle.road_model.proofs.FiniteWords.{continues}
use Rattle.road_model.proofs.laws.contexts.Goals as goal

pub returns-clause-shorter : goal.returns-clause-shorter
returns-clause-shorter g c M e t some k = without_last M _ e t some k

pub returns-clause-some : goal.returns-clause-some
returns-clause-some g c M d some i l = longest_of_any M _ (continues M _) d some i l

pub returns-clause-one : goal.returns-clause-one
returns-clause-one g c M d b e x y = one_longest M _ d b e x y

pub returns-clause-next : goal.returns-clause-next
returns-clause-next g c M d b e t v i x y = next_context M _ d b e t v i x y

pub returns-clause-alone : goal.returns-clause-alone
returns-clause-alone g c M e none k = one_alone M _ e none k
