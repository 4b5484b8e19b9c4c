use Rattle.std.proofs.Common.{◌∙◌, sym}
use Rattle.std.proofs.lemmas.Result.{err_from_is_err_and}
use Rattle.road_io.specs.declared.outside.Which.TheVariants.{A}
use Rattle.road_io.specs.Disk.{IsDurable}
use Rattle.road_io.specs.Outside.{disk}
use Rattle.road_io.proofs.ToldCalls.{told_then, told_weaker, told_gives}
use Rattle.store_switch.proofs.CalmRuns.{Found, told_found, told_none}
use Rattle.store_switch.proofs.StoreCreations.{create_not_settled, create_not_found, create_exists}
use Rattle.store_switch.proofs.StoreCreations.{create_done}
use Rattle.store_switch.proofs.creating.create_store.Goals as goal

pub returns-in_err-settle_both-clause-told : goal.returns-in_err-settle_both-clause-told
returns-in_err-settle_both-clause-told g c =
    let p = err_from_is_err_and c.from_residual.result c.from_residual.ensures.1 in
    rw (p.1, p.2) (told_weaker _ _ _ _ c.in_err-settle_both.ensures.told
    (create_not_settled c.args.base.0 c.args.events.now c.in_err-settle_both.field-0.0))

pub returns-in_err-find_live-clause-told : goal.returns-in_err-find_live-clause-told
returns-in_err-find_live-clause-told g c =
    let p = err_from_is_err_and c.from_residual-in_err-find_live.result c.from_residual-in_err-find_live.ensures.1 in
    rw (p.1, p.2) (told_then _ _ _ _ _ _ c.in_ok-settle_both.ensures.told c.in_err-find_live.ensures.told
    (create_not_found c.args.base.0 c.args.events.now c.in_err-find_live.field-0.0 c.in_ok-settle_both.field-0))

pub returns-then-is_some-clause-told : goal.returns-then-is_some-clause-told
returns-then-is_some-clause-told g c =
    let found = c.in_ok-find_live.field-0 in
    told_weaker _ _ _ _ (told_found found c.in_ok-settle_both.field-0 _ _ _ c.in_ok-settle_both.ensures.told
    c.in_ok-find_live.ensures.told) (λ w u. create_exists c.args.base.0 c.args.events.now found w u
    (sym c.is_some.ensures ∙ c.if-is_some.true))

pub write_base-requires-clause-durable : goal.write_base-requires-clause-durable
write_base-requires-clause-durable g c =
    let found = c.in_ok-find_live.field-0 in
    told_gives _ _ (Found found) (λ w. IsDurable (disk w A)) (told_found found c.in_ok-settle_both.field-0 _ _ _
    c.in_ok-settle_both.ensures.told c.in_ok-find_live.ensures.told) (λ w v f. f.durable A)

pub returns-clause-told : goal.returns-clause-told
returns-clause-told g c =
    told_then _ _ _ _ _ _ (told_none c.in_ok-find_live.field-0 c.in_ok-settle_both.field-0 _ _ _
    c.in_ok-settle_both.ensures.told c.in_ok-find_live.ensures.told (sym c.is_some.ensures ∙ c.if-is_some.false))
    c.write_base.ensures.told (λ w u v f. create_done c.args.base.0 c.args.events.now w u v f c.write_base.result)
