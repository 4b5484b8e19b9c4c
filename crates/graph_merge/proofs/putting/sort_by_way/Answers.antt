-- The sort is by the way.
use Rattle.std.proofs.Common.{rules}
use Rattle.std.proofs.lemmas.List.Sorted.{answers_always}
use Rattle.road_base.specs.declared.ids.WayId.{WayId}
use Rattle.road_model.specs.declared.blocks.Block.{Block}
use Rattle.graph_merge.proofs.putting.sort_by_way.Goals as goal

abbrev way : Block → WayId
way b = b.way

pub returns-clause-sorted : goal.returns-clause-sorted
returns-clause-sorted c = c.sort_unstable_by_key.ensures.sorted way
    (answers_always _ _ _ (λ f a r g called. search rules))
