use Rattle.std.proofs.Common.{◌≡◌, length, slice_get, get_or, Some, pos, ap, sym, ◌∙◌, arith}
use Rattle.std.proofs.lemmas.Option.{slice_get-get_or}
use Rattle.road_base.specs.declared.ids.Step.{Step}
use Rattle.road_base.specs.declared.ids.Dir.TheVariants.{Forward}
use Rattle.turn_automata.proofs.TurnsOfVisits.{marked_end}
use Rattle.turn_automata.proofs.turns.mark_no.Goals as goal

pub returns : goal.returns
returns c = λ W vs of old.
    let v = c.args.visit in
    let w = c.args.word.now in
    let none : Step = record { way = record { 0 = pos 0 }; index = 0; dir = Forward } in
    let x = get_or c.items-steps.result.now v.depth none in
    let l : length c.items-steps.result.now ≡ length w.steps = ap length c.items-steps.ensures in
    let at : slice_get w.steps v.depth ≡ Some x = ap (λ xs. slice_get xs v.depth) (sym c.items-steps.ensures)
    ∙ slice_get-get_or c.items-steps.result.now v.depth none (omega (arith, c.requires.inside)) in
    marked_end W vs v w of x at c.args.turns.now c.insert.new.self c.requires.no
    (omega (arith, c.requires.inside, c.if-visit-steps.false)) c.in_ok-insert.ensures.updates old
