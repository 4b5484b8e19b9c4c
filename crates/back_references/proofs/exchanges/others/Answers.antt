use Rattle.std.proofs.Common.{◌≡◌, ◌+◌, [], ◌∷◌, ◌++◌, take, sym, ap, ◌∙◌, subst, take_all}
use Rattle.std.proofs.lemmas.List.{take_more}
use Rattle.back_references.proofs.ExchangedPairs.{AreOthers, others_none, others_more}
use Rattle.back_references.proofs.exchanges.others.Goals as goal

pub loop-value-init : goal.loop-value-init
loop-value-init g c = others_none c.args.gone.now _ c.in_ok-list.ensures.items

pub loop-value-preserved : goal.loop-value-preserved
loop-value-preserved g c =
    let xs = c.args.values.now in
    let x = c.value-item.result in
    let front = take c.loop-value.value-index xs in
    let step : take (c.loop-value.value-index + 1) xs
    ≡ front ++ x ∷ [] = take_more xs c.loop-value.value-index x c.loop-value-test.true
    ∙ ap (λ z. front ++ z ∷ []) (sym c.value-item.is) in
    subst (λ l. AreOthers l c.args.gone.now c.add_other.new.list.items) (sym step)
    (others_more front c.args.gone.now c.loop-value.list.items c.add_other.new.list.items x c.loop-value.invariant
    c.in_ok-add_other.ensures)

pub returns : goal.returns
returns g c =
    subst (λ l. AreOthers l c.args.gone.now c.loop-value.list.items)
    (take_all c.loop-value.value-index c.args.values.now c.loop-value-test.false) c.loop-value.invariant
