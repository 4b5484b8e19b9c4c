use Rattle.layered_maps.specs.Lists.{Has}
use Rattle.std.proofs.lemmas.Result.{IfOk-weaker}
use Rattle.back_references.proofs.ExchangedPairs.{stays_by}
use Rattle.back_references.proofs.exchanged_lists.values_after.Goals as goal

pub returns-clause-exactly : goal.returns-clause-exactly
returns-clause-exactly g c =
    IfOk-weaker c.exchanged_values.result _ _ (λ r is. stays_by g.V.Ord.cmp
    (λ v. Has g.K.Ord.cmp c.args.held.now c.args.key v)
    c.args.gone.now c.args.come.now (λ v. (c.args.key, v)) c.at.result.now c.at-2.result.now c.at-3.result.now r.items
    c.at.ensures c.at-2.ensures c.at-3.ensures is) c.exchanged_values.ensures.exactly
