-- The states serve the piece's way.
use Rattle.std.proofs.Common.{sym, subst}
use Rattle.expanded_graph.specs.Contexts.{AreEndings}
use Rattle.expanded_graph.proofs.pieces.contexts_there.Goals as goal

pub contexts_of-requires : goal.contexts_of-requires
contexts_of-requires g c =
    let watched = c.args.tables.now.watched in
    record {
      states = c.requires.tables.watched.states c.args.span.name.way c.requires.serve;
      endings = subst (AreEndings watched.states.automaton watched.states.facts.items) (sym c.as_slice.ensures.value)
          c.requires.tables.watched.endings;
      intersection = c.requires.intersection;
      piece = c.requires.piece;
      free = c.requires.free;
      arrives = c.requires.arrives;
    }
