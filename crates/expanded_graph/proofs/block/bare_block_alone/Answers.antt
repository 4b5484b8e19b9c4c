-- Tables for the way alone serve it.
use Rattle.std.proofs.Common.{List, [], ◌∷◌, inl, refl, sym, subst, Contains}
use Rattle.road_base.specs.declared.ids.WayId.{WayId}
use Rattle.ordered_lists.proofs.ListMembers.{contains_from_in}
use Rattle.expanded_graph.proofs.block.bare_block_alone.Goals as goal

pub bare_block_of-requires-clause-serve : goal.bare_block_of-requires-clause-serve
bare_block_of-requires-clause-serve g c =
    let w = c.args.way in
    subst (λ (l : List WayId). Contains l w) (sym c.in_ok-tables.ensures.ways)
    (contains_from_in (w ∷ []) w (inl refl))
