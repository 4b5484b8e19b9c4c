-- What is known of the piece that arrives is what is asked for, by the states that serve its way or by its own.
use Rattle.std.proofs.Common.{List, [], ◌∷◌, inl, refl, sym, ap, ◌∙◌, subst, Contains}
use Rattle.std.proofs.lemmas.Bool.{false≢true}
use Rattle.road_base.specs.declared.ids.WayId.{WayId}
use Rattle.expanded_graph.specs.Contexts.{AreEndings}
use Rattle.ordered_lists.proofs.ListMembers.{contains_from_in}
use Rattle.expanded_graph.proofs.sources.add_from.Goals as goal

pub add_behind-requires-clause-coming : goal.add_behind-requires-clause-coming
add_behind-requires-clause-coming g c =
    let watched = c.args.tables.now.watched in
    record {
      states = c.requires.tables.watched.states c.args.arrival.span.name.way (c.serve.ensures c.if-serve.true);
      endings = subst (AreEndings watched.states.automaton watched.states.facts.items) (sym c.as_slice.ensures.value)
          c.requires.tables.watched.endings;
      intersection = c.requires.intersection;
      free = c.requires.free;
      piece = c.requires.arrival.is;
      arrives = c.requires.arrival.arrives;
    }

pub add_behind-requires-2-clause-coming : goal.add_behind-requires-2-clause-coming
add_behind-requires-2-clause-coming g c =
    let w = c.args.arrival.span.name.way in
    let own = c.in_ok-own.own in
    let known = c.in_ok-own.ensures.are in
    record {
      states = known.states w (subst (λ (l : List WayId). Contains l w)
          (sym (ap (λ v. v.items) c.in_ok-own.ensures.ways
          ∙ c.in_ok-to_vec.ensures.items_if_clones_equal (λ x y is. is)))
          (contains_from_in (w ∷ []) w (inl refl)));
      endings = subst (AreEndings own.states.automaton own.states.facts.items) (sym c.as_slice-2.ensures.value)
          known.endings;
      intersection = c.requires.intersection;
      free = λ t. absurd (false≢true t);
      piece = c.requires.arrival.is;
      arrives = c.requires.arrival.arrives;
    }
