use Rattle.std.proofs.Common.{map, sym, ap, ◌∙◌, append_assoc, subst, ◌++◌}
use Rattle.std.specs.Option.{option_copied}
use Rattle.layered_maps.specs.Walks.{IsNext}
use Rattle.context_search.specs.Marks.{at_of, all_contexts, contexts_over}
use Rattle.context_search.proofs.spots.spots_of.Goals as goal

pub loop-block-preserved : goal.loop-block-preserved
loop-block-preserved c =
    let was = map at_of c.loop-block.spots.items in
    let block = c.in-Some.block.now in
    let rest = c.next.new.self in
    let more = contexts_over block.pieces in
    let left = all_contexts rest in
    let taken = subst (λ o. IsNext o c.loop-block.rest rest) (ap option_copied c.in-Some.is) c.next.ensures in
    ap (λ l. l ++ left) (c.in_ok-add_pieces.ensures ∙ ap (λ ps. was ++ contexts_over ps) c.items.ensures)
    ∙ append_assoc was more left
    ∙ ap (λ l. was ++ all_contexts l) (sym taken)
    ∙ c.loop-block.invariant
