use Rattle.std.proofs.Common.{sym, ap, ◌∙◌}
use Rattle.std.proofs.lemmas.Result.{IfOk-weaker}
use Rattle.layered_maps.specs.Layers.{laid, put_all, values_of}
use Rattle.layered_maps.proofs.layers.+all_of.Goals as goal

pub returns-in_ok-all_of-in-Some : goal.returns-in_ok-all_of-in-Some
returns-in_ok-all_of-in-Some g t c =
    let R = g.K.Ord.cmp in
    IfOk-weaker c.merged-in-Some.result _ _ (λ l is. is
    ∙ (λ i. put_all R (c.deref.ensures i) (c.in_ok-all_of-in-Some.ensures i))
    ∙ sym (ap (λ l. laid R (values_of l)) c.in-Some.ensures.cases.0)) c.merged-in-Some.ensures
