use Rattle.std.proofs.Common.{◌≡◌, ◌++◌, sym, ap, ◌∙◌}
use Rattle.std.specs.FinMap.{find}
use Rattle.std.proofs.lemmas.Result.{IfOk-weaker}
use Rattle.layered_maps.specs.Layers.{values_of}
use Rattle.layered_maps.specs.Lists.{lists_in}
use Rattle.layered_maps.proofs.FirstLists.{find_merged}
use Rattle.layered_maps.proofs.list_layers.+over.Goals as goal

pub returns-in_ok-merged-in-Some : goal.returns-in_ok-merged-in-Some
returns-in_ok-merged-in-Some g t c =
    let R = g.K.Ord.cmp in
    let first = c.in-Some.first.now.value in
    let rest = lists_in (values_of c.in-Some.behind.now) in
    let merged = c.in_ok-merged-in-Some.merged in
    let split : lists_in (values_of c.args.runs.now) ≡ first ++ rest
    = ap (λ l. lists_in (values_of l)) c.in-Some.ensures.cases.0 in
    IfOk-weaker c.over.result _ _ (λ l is k. is k
    ∙ find_merged R k merged c.args.later first rest
    (c.in_ok-merged-in-Some.ensures k ∙ ap (λ b. find R k (c.args.later ++ b)) c.deref-in-Some.ensures)
    ∙ ap (λ b. find R k (c.args.later ++ b)) (sym split)) c.over.ensures
