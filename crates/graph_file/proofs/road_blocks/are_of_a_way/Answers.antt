use Rattle.std.proofs.Common.{sym, refl, ◌∙◌}
use Rattle.road_model.specs.declared.lists.Piece.{Piece}
use Rattle.road_model.specs.Format.{place_cmp}
use Rattle.graph_file.proofs.Ascents.{named}
use Rattle.graph_file.proofs.road_blocks.are_of_a_way.Goals as goal

pub returns-then-are_some : goal.returns-then-are_some
returns-then-are_some c =
    let ascend = named place_cmp (λ (x : Piece). x.name) c.args.pieces.now c.args.pieces.now c.do_ascend.result
    c.do_ascend.ensures refl in
    (λ yes. (c.are_some.ensures.0 c.if-are_some.true, sym ascend ∙ yes), λ both. ascend ∙ both.1)
