use Rattle.std.proofs.lemmas.Result.{err_from_is_err_and}
use Rattle.road_io.proofs.ToldCalls.{told_then, told_weaker}
use Rattle.store_switch.proofs.CalmRuns.{told_found}
use Rattle.store_switch.proofs.StoreLoads.{store_not_settled, store_not_found, no_store, loaded_store}
use Rattle.store_switch.proofs.loading.load_store.Goals as goal

pub returns-in_err-settle_both-clause-told : goal.returns-in_err-settle_both-clause-told
returns-in_err-settle_both-clause-told g c =
    let p = err_from_is_err_and c.from_residual.result c.from_residual.ensures.1 in
    rw (p.1, p.2) (told_weaker _ _ _ _ c.in_err-settle_both.ensures.told
    (store_not_settled c.in_err-settle_both.field-0.0))

pub returns-in_err-live-clause-told : goal.returns-in_err-live-clause-told
returns-in_err-live-clause-told g c =
    let p = err_from_is_err_and c.from_residual-in_err-live.result c.from_residual-in_err-live.ensures.1 in
    rw (p.1, p.2) (told_then _ _ _ _ _ _ c.in_ok-settle_both.ensures.told c.in_err-live.ensures.told
    (store_not_found c.in_err-live.field-0.0 c.in_ok-settle_both.field-0))

pub returns-in_default-clause-told : goal.returns-in_default-clause-told
returns-in_default-clause-told g c =
    let live = c.in_ok-live.field-0 in
    told_weaker _ _ _ _ (told_found live c.in_ok-settle_both.field-0 _ _ _ c.in_ok-settle_both.ensures.told
    c.in_ok-live.ensures.told) (λ w u. no_store live w u c.in_default.is)

pub returns-clause-told : goal.returns-clause-told
returns-clause-told g c =
    let live = c.in_ok-live.field-0 in
    told_then _ _ _ _ _ _ (told_found live c.in_ok-settle_both.field-0 _ _ _ c.in_ok-settle_both.ensures.told
    c.in_ok-live.ensures.told) c.mend.ensures.told
    (λ w u v. loaded_store live c.in-Some.live c.mend.result w u v c.in-Some.is)
