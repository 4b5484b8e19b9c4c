use Rattle.std.proofs.Common.{◌≡◌, sym, ap, ◌∙◌}
use Rattle.std.proofs.lemmas.Result.{IfOk-weaker}
use Rattle.layered_maps.specs.Layers.{laid, put_all, values_of}
use Rattle.layered_maps.proofs.LayerPairs.{put_merged}
use Rattle.layered_maps.proofs.layers.+over.Goals as goal

pub returns-in_ok-merged-in-Some-clause-laid : goal.returns-in_ok-merged-in-Some-clause-laid
returns-in_ok-merged-in-Some-clause-laid g t c =
    let R = g.K.Ord.cmp in
    let later = c.args.later in
    let first = c.in-Some.first.now.value in
    let rest = laid R (values_of c.in-Some.behind.now) in
    let merged : c.in_ok-merged-in-Some.merged ≡ put_all R later first
    = c.in_ok-merged-in-Some.ensures ∙ ap (put_all R later) c.deref-in-Some.ensures in
    IfOk-weaker c.over.result _ _ (λ l is. is ∙ ap (λ m. put_all R m rest) merged
    ∙ put_merged R g.met.K.Ord.total later first rest
    ∙ sym (ap (λ l. put_all R later (laid R (values_of l))) c.in-Some.ensures.cases.0)) c.over.ensures.laid
