-- What was found is so, and the given ways are watched, as those that meet them.
use Rattle.std.proofs.Common.{inl, sym, subst, Contains}
use Rattle.expanded_graph.proofs.tables.Tables.of.Goals as goal

pub returns-clause-are : goal.returns-clause-are
returns-clause-are g c = record {
  pieces = c.in_ok-pieces.ensures.are;
  watched = c.in_ok-watched.ensures.are;
  intersections = c.in_ok-intersections.ensures;
}

pub returns-clause-ways : goal.returns-clause-ways
returns-clause-ways g c = λ w has.
    subst (λ v. Contains v.items w) (sym c.in_ok-watched.ensures.ways) ((c.in_ok-served.ensures w).1 (inl has))
