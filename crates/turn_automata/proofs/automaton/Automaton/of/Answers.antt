use Rattle.std.proofs.Common.{◌≡◌, List, sym, subst, ◌∙◌}
use Rattle.restrictions.specs.declared.word_list.Word.{Word}
use Rattle.turn_automata.specs.Machines.{IsMachine}
use Rattle.turn_automata.proofs.automaton.Automaton.of.Goals as goal

pub invariant_of-result : goal.invariant_of-result
invariant_of-result c =
    let same : c.items-list.result.now ≡ c.in_ok-words.words = c.items-list.ensures ∙ sym c.in_ok-words.ensures in
    subst (λ (W : List Word). IsMachine W c.in_ok-tree.field-0.tree c.in_ok-links.links.items c.in_ok-turns.turns
    c.has_empty_no-stopped.result) same
    (record {
      len = c.in_ok-links.ensures.len;
      descends = c.in_ok-links.ensures.descends;
      watching = record {
        closed = c.in_ok-tree.ensures.closed;
        lists = c.in_ok-tree.ensures.lists;
        links = c.in_ok-links.ensures.links;
        turns = c.in_ok-turns.ensures;
      };
      never = c.has_empty_no-stopped.ensures;
    })
