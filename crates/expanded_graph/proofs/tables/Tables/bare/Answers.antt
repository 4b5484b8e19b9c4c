-- What was found is so, and these ways are watched.
use Rattle.std.proofs.Common.{ap, ◌∙◌}
use Rattle.expanded_graph.proofs.tables.Tables.bare.Goals as goal

pub returns-clause-are : goal.returns-clause-are
returns-clause-are g c = record {
  pieces = c.in_ok-pieces.ensures.are;
  watched = c.in_ok-watched.ensures.are;
  intersections = c.in_ok-intersections.ensures;
}

pub returns-clause-ways : goal.returns-clause-ways
returns-clause-ways g c =
    ap (λ v. v.items) c.in_ok-watched.ensures.ways ∙ c.in_ok-own.ensures.items_if_clones_equal (λ x y is. is)
