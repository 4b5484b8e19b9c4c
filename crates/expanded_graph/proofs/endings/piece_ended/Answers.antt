-- The state before isn't the first one where the list has two steps or more.
use Rattle.std.proofs.Common.{◌≡◌, None, Some, refl, sym, ◌∙◌, arith}
use Rattle.std.proofs.lemmas.Bool.{false≢true, not_from_true, not-false}
use Rattle.road_model.specs.declared.lists.PieceName.{PieceName}
use Rattle.ordered_lists.proofs.ListPlaces.{read_at}
use Rattle.expanded_graph.proofs.EndingStates.{not_root, has_legal, ending_with, name_on}
use Rattle.expanded_graph.proofs.endings.piece_ended.Goals as goal

no_name : (n : PieceName) → None ≡ Some n → ⊥
no_name n e = cc

pub returns-then-before-eq0 : goal.returns-then-before-eq0
returns-then-before-eq0 c =
    let m = c.args.states.now.automaton in
    let facts = c.args.states.now.facts.items in
    let f = c.index-facts.result.now in
    let is = read_at facts c.args.number f c.requires.within c.index-facts.ensures in
    λ n. (
      λ e. absurd (no_name n e),
      λ h. absurd
          (not_root m facts n.way c.closed.ensures.closed c.args.number
          c.edge-before.result.0 c.edge-before.result.1 c.edge-before.ensures.is c.edge-before.ensures.less
          (omega (arith, c.requires.count, c.requires.within)) f is h.0 c.if-before-eq0.true),
    )

pub returns-then-not-facts : goal.returns-then-not-facts
returns-then-not-facts c =
    let m = c.args.states.now.automaton in
    let facts = c.args.states.now.facts.items in
    let f = c.index-facts.result.now in
    let is = read_at facts c.args.number f c.requires.within c.index-facts.ensures in
    λ n. (
      λ e. absurd (no_name n e),
      λ h. absurd
          (false≢true (sym (not_from_true f.is_legal (has_legal m facts n.way c.closed.ensures.closed c.args.number
          c.edge-before.result.0
          c.edge-before.result.1 c.edge-before.ensures.is c.edge-before.ensures.less
          (omega (arith, c.requires.count, c.requires.within)) f is h.0)) ∙ c.if-not-facts.true)),
    )

pub returns : goal.returns
returns c =
    let m = c.args.states.now.automaton in
    let facts = c.args.states.now.facts.items in
    let f = c.index-facts.result.now in
    let is = read_at facts c.args.number f c.requires.within c.index-facts.ensures in
    λ n. (
      λ e. ending_with m facts n.way c.closed.ensures.closed c.args.number c.edge-before.result.0 c.edge-before.result.1
          c.edge-before.ensures.is c.edge-before.ensures.less (omega (arith, c.requires.count, c.requires.within)) f is
          c.if-before-eq0.false (not-false f.is_legal c.if-not-facts.false) n (e, refl),
      λ h. (name_on m facts n.way c.closed.ensures.closed c.args.number c.edge-before.result.0 c.edge-before.result.1
          c.edge-before.ensures.is c.edge-before.ensures.less (omega (arith, c.requires.count, c.requires.within)) f is
          n h).0,
    )
