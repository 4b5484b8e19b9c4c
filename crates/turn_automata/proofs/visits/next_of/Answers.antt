use Rattle.std.proofs.Common.{◌≡◌, ◌+◌, length, slice_get, get_or, Some, pos, ap, sym, ◌∙◌, arith}
use Rattle.std.proofs.lemmas.Option.{get_or_from_slice_get, slice_get-get_or}
use Rattle.road_base.specs.declared.ids.Step.{Step}
use Rattle.road_base.specs.declared.ids.Dir.TheVariants.{Forward}
use Rattle.restrictions.specs.declared.word_list.Word.{Word}
use Rattle.turn_automata.proofs.WordVisits.{next_visit, visit_length}
use Rattle.turn_automata.proofs.visits.next_of.Goals as goal

pub returns-clause-some : goal.returns-clause-some
returns-clause-some c =
    let is = c.requires in
    let W = c.args.words.now in
    let v = c.args.visit in
    let steps = c.items-steps.result.now in
    let none : Step = record { way = record { 0 = pos 0 }; index = 0; dir = Forward } in
    let same : steps ≡ is.word.steps = c.items-steps.ensures
    ∙ ap (λ (w : Word). w.steps) (get_or_from_slice_get W v.word is.word c.index-words-visit.result is.of) in
    let l : length is.word.steps ≡ v.depth + 1 + length is.rest = visit_length W c.args.tree.now v is in
    let m : length steps ≡ length is.word.steps = ap length same in
    let at : slice_get is.word.steps v.depth ≡ Some (get_or steps v.depth none) = ap (λ xs. slice_get xs v.depth)
    (sym same) ∙ slice_get-get_or steps v.depth none (omega arith) in
    next_visit W c.args.tree.now c.add.new.self v is c.in_ok-state.state (get_or steps v.depth none) at
    c.in_ok-state.ensures.number c.in_ok-state.ensures.grown
    (λ e. c.if-depth-steps.false (sym e ∙ sym m))
