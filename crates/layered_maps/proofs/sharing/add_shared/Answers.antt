use Rattle.std.proofs.Common.{◌≡◌, ◌+◌, ◌++◌, ◌∷◌, [], take, sym, ap, ◌∙◌, take_all, append-nil}
use Rattle.std.proofs.lemmas.List.{take_more}
use Rattle.layered_maps.specs.Layers.{values_of}
use Rattle.layered_maps.proofs.LayerPairs.{value_more}
use Rattle.layered_maps.proofs.sharing.add_shared.Goals as goal

pub loop-run-init : goal.loop-run-init
loop-run-init g c = sym (append-nil (values_of c.args.list.now.items))

pub loop-run-preserved : goal.loop-run-preserved
loop-run-preserved g c =
    let runs = c.args.runs.now in
    let run = c.run-item.result in
    let front = take c.loop-run.run-index runs in
    let step : take (c.loop-run.run-index + 1) runs ≡ front ++ run ∷ []
    = take_more runs c.loop-run.run-index run c.loop-run-test.true ∙ ap (λ z. front ++ z ∷ []) (sym c.run-item.is) in
    value_more (values_of c.args.list.now.items) front run c.in_ok-clone.field-0 c.loop-run.list.items
    c.push.new.self.items (take (c.loop-run.run-index + 1) runs) c.loop-run.invariant c.in_ok-push.ensures.items
    c.in_ok-clone.ensures.cases step

pub returns : goal.returns
returns g c =
    c.loop-run.invariant
    ∙ ap (λ l. values_of c.args.list.now.items ++ values_of l)
    (take_all c.loop-run.run-index c.args.runs.now c.loop-run-test.false)
