use Rattle.std.proofs.Common.{◌≡◌, ◌+◌, ◌++◌, ◌∷◌, Some, None, drop, refl, sym, ap, ◌∙◌, option_copied}
use Rattle.std.specs.FinMap.{find}
use Rattle.std.proofs.lemmas.List.{drop_more, drop_all}
use Rattle.layered_maps.specs.Layers.{values_of}
use Rattle.layered_maps.specs.Lists.{lists_in}
use Rattle.layered_maps.proofs.FirstLists.{find_first, find_second}
use Rattle.layered_maps.proofs.list_layers.found.Goals as goal

pub loop-run-init : goal.loop-run-init
loop-run-init g c = refl

pub returns-in-Some : goal.returns-in-Some
returns-in-Some g c =
    let R = g.K.Ord.cmp in
    let k = c.args.key in
    let run = c.run-item.result in
    let rest = drop (c.loop-run.run-index + 1) c.args.runs.now in
    let here : lists_in (values_of (drop c.loop-run.run-index c.args.runs.now)) ≡ run.value ++ lists_in (values_of rest)
    = ap (λ l. lists_in (values_of l)) (drop_more c.args.runs.now c.loop-run.run-index run c.loop-run-test.true
    ∙ ap (λ z. z ∷ rest) (sym c.run-item.is)) in
    let is : find R k run.value ≡ Some c.in-Some.list.now
    = ap (find R k) (sym c.deref.ensures) ∙ sym c.get.ensures ∙ ap option_copied c.in-Some.is in
    sym (sym c.loop-run.invariant ∙ ap (find R k) here
    ∙ find_first R k run.value (lists_in (values_of rest)) c.in-Some.list.now is)

pub loop-run-preserved : goal.loop-run-preserved
loop-run-preserved g c =
    let R = g.K.Ord.cmp in
    let k = c.args.key in
    let run = c.run-item.result in
    let rest = drop (c.loop-run.run-index + 1) c.args.runs.now in
    let here : lists_in (values_of (drop c.loop-run.run-index c.args.runs.now)) ≡ run.value ++ lists_in (values_of rest)
    = ap (λ l. lists_in (values_of l)) (drop_more c.args.runs.now c.loop-run.run-index run c.loop-run-test.true
    ∙ ap (λ z. z ∷ rest) (sym c.run-item.is)) in
    let none : find R k run.value ≡ None
    = ap (find R k) (sym c.deref.ensures) ∙ sym c.get.ensures ∙ ap option_copied c.in_default.is in
    sym (find_second R k run.value (lists_in (values_of rest)) none) ∙ sym (ap (find R k) here) ∙ c.loop-run.invariant

pub returns : goal.returns
returns g c =
    sym (ap (λ l. find g.K.Ord.cmp c.args.key (lists_in (values_of l)))
    (drop_all c.loop-run.run-index c.args.runs.now c.loop-run-test.false)) ∙ c.loop-run.invariant
