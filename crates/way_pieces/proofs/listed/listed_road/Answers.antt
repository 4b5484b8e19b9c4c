-- The pieces go where the way is open.
use Rattle.std.proofs.Common.{◌≡◌, ◌==◌, false, List, length, sym, ap, ◌∙◌}
use Rattle.std.specs.List.{list_any}
use Rattle.road_base.specs.declared.ids.Dir.TheVariants.{Forward, Backward}
use Rattle.road_model.specs.declared.lists.Piece.{Piece}
use Rattle.way_pieces.specs.Listed.{goes}
use Rattle.way_pieces.proofs.ListedDirections.{goes_as_open}
use Rattle.way_pieces.proofs.listed.listed_road.Goals as goal

pub returns-clause-directions : goal.returns-clause-directions
returns-clause-directions c = λ M P lists.
    let b = c.args.block.now in
    let some : (length b.pieces == 0) ≡ false =
    ap (λ (l : List Piece). length l == 0) (sym c.items-pieces.ensures)
    ∙ (sym c.is_empty.ensures ∙ c.if-is_empty.false) in
    let as_open = goes_as_open M P c.args.way b lists in
    record {
      forward = c.some_goes.ensures ∙ (ap (list_any (goes Forward)) c.items-pieces.ensures ∙ as_open Forward some);
      backward = c.some_goes-2.ensures ∙ (ap (list_any (goes Backward)) c.items-pieces.ensures ∙ as_open Backward some);
    }
