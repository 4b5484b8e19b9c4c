use Rattle.std.proofs.Common.{◌≡◌, ◌+◌, [], ◌∷◌, ◌++◌, length, get_or, take, sym, ap, subst, arith}
use Rattle.std.proofs.lemmas.Option.{slice_get_within}
use Rattle.std.proofs.lemmas.List.{take_more}
use Rattle.std.proofs.lemmas.List.Elements.{Contains-get_or}
use Rattle.std.proofs.lemmas.Grind.{common_steps}
use Rattle.restrictions.specs.declared.word_list.Word.{Word}
use Rattle.turn_automata.specs.declared.visits.Visit.{Visit}
use Rattle.turn_automata.specs.Turns.{AreMarked}
use Rattle.ordered_lists.proofs.ListPlaces.{one_stands}
use Rattle.turn_automata.proofs.WordVisits.{visit_length}
use Rattle.turn_automata.proofs.TurnsOfVisits.{turns_are}
use Rattle.turn_automata.proofs.turns.turns_of.Goals as goal

pub mark-requires-clause-within : goal.mark-requires-clause-within
mark-requires-clause-within c =
    let none : Visit = record { word = 0; depth = 0; state = 0 } in
    let v : Visit = get_or c.args.visits.now c.loop-visit.visit-index none in
    let is = c.requires.sound v (Contains-get_or c.args.visits.now c.loop-visit.visit-index none c.loop-visit-test.true)
    in
    slice_get_within c.args.words.now v.word is.word is.of

pub mark-requires-clause-inside : goal.mark-requires-clause-inside
mark-requires-clause-inside c = λ w of.
    let none : Visit = record { word = 0; depth = 0; state = 0 } in
    let v : Visit = get_or c.args.visits.now c.loop-visit.visit-index none in
    let is = c.requires.sound v (Contains-get_or c.args.visits.now c.loop-visit.visit-index none c.loop-visit-test.true)
    in
    let l : length is.word.steps ≡ v.depth + 1 + length is.rest = visit_length c.args.words.now c.args.tree.now v is in
    let m : length is.word.steps ≡ length w.steps = ap (λ (z : Word). length z.steps)
    (one_stands c.args.words.now v.word is.word w is.of of) in
    omega arith

pub loop-visit-preserved : goal.loop-visit-preserved
loop-visit-preserved c =
    let vs = c.args.visits.now in
    let i = c.loop-visit.visit-index in
    let none : Visit = record { word = 0; depth = 0; state = 0 } in
    let v : Visit = get_or vs i none in
    let more : take (i + 1) vs ≡ take i vs ++ v ∷ [] = take_more vs i none c.loop-visit-test.true in
    subst (λ us. AreMarked c.args.words.now us c.mark.new.turns) (sym more)
    (c.in_ok-mark.ensures (take i vs) c.loop-visit.invariant)

pub returns : goal.returns
returns c =
    let vs = c.args.visits.now in
    let all : take c.loop-visit.visit-index vs ≡ vs = grind (arith, common_steps, c.loop-visit-test.false) in
    turns_are c.args.words.now c.args.tree.now c.closed.ensures vs c.requires c.loop-visit.turns
    (subst (λ us. AreMarked c.args.words.now us c.loop-visit.turns) all c.loop-visit.invariant)
