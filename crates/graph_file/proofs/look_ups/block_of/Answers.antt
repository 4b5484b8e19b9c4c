use Rattle.std.proofs.Common.{rules}
use Rattle.std.proofs.lemmas.List.Sorted.{answers_always}
use Rattle.road_base.specs.declared.ids.WayId.{WayId}
use Rattle.road_model.specs.declared.blocks.Block.{Block}
use Rattle.road_model.specs.Orders.{way_cmp}
use Rattle.road_model.proofs.TotalOrders.{way_cmp_total, way_cmp_exact}
use Rattle.graph_file.proofs.LookUps.{missed, found}
use Rattle.graph_file.proofs.look_ups.block_of.Goals as goal

abbrev way_in : Block → WayId
way_in b = b.way

pub returns-in-Ok-clause-way : goal.returns-in-Ok-clause-way
returns-in-Ok-clause-way c =
    found way_in way_cmp way_cmp_total way_cmp_exact c.args.way c.args.blocks.now c.in-Ok.at c.index-blocks-at.result
    c.index-blocks-at.is
    (c.in-Ok.ensures.position way_in (answers_always _ _ _ (λ f a r g called. search rules)))

pub returns-in-Err-clause-none : goal.returns-in-Err-clause-none
returns-in-Err-clause-none c =
    missed way_in way_cmp way_cmp_total c.args.way c.args.blocks.now c.in-Err.field-0 c.requires
    (c.in-Err.ensures.position way_in (answers_always _ _ _ (λ f a r g called. search rules)))
