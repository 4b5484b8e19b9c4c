-- Tables for the way alone serve it.
use Rattle.std.proofs.Common.{[], ◌∷◌, inl, refl}
use Rattle.ordered_lists.proofs.ListMembers.{contains_from_in}
use Rattle.expanded_graph.proofs.block.block_alone.Goals as goal

pub block_of-requires-clause-serve : goal.block_of-requires-clause-serve
block_of-requires-clause-serve g c =
    let w = c.args.way in
    c.in_ok-tables.ensures.ways w (contains_from_in (w ∷ []) w (inl refl))
