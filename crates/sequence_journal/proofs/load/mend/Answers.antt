use Rattle.std.proofs.Common.{Err, arith}
use Rattle.std.proofs.lemmas.Result.{err_from_is_err_and}
use Rattle.road_io.specs.Told.{Told}
use Rattle.road_io.specs.Outside.{IsSound}
use Rattle.road_io.proofs.ToldCalls.{told_then, told_weaker}
use Rattle.sequence_journal.proofs.MendedFile.{Looked, look, mend_refused, mend_untested, mend_whole, mend_limit}
use Rattle.sequence_journal.proofs.MendedFile.{mend_done, mend_failed}
use Rattle.sequence_journal.specs.Ends.{Repairs}
use Rattle.sequence_journal.proofs.SoundEnds.{told_behind}
use Rattle.sequence_journal.proofs.load.mend.Goals as goal

pub returns-in_err-history-clause-told : goal.returns-in_err-history-clause-told
returns-in_err-history-clause-told g c =
    let p = err_from_is_err_and c.from_residual.result c.from_residual.ensures.1 in
    rw (p.1, p.2) (told_weaker _ _ _ _ c.in_err-history.ensures.told
    (mend_refused c.args.file c.in_err-history.field-0.0))

pub returns-in_err-whole-clause-told : goal.returns-in_err-whole-clause-told
returns-in_err-whole-clause-told g c =
    let p = err_from_is_err_and c.from_residual-in_err-whole.result c.from_residual-in_err-whole.ensures.1 in
    rw p.1 (told_then _ _ _ _ _ _ c.in_ok-history.ensures.told c.in_err-whole.ensures.told
    (λ w u v j t. mend_untested c.args.file c.in_ok-history.history p.0 c.in_err-whole.field-0.0 w u v p.2 j t))

pub returns-then-whole-clause-told : goal.returns-then-whole-clause-told
returns-then-whole-clause-told g c =
    let r = c.in_ok-history.history in
    let whole = c.in_ok-whole.whole in
    let looked : Told (Looked c.args.file r whole) (g.W.Site.outside c.args.site.now)
    (g.W.Site.outside c.ends_there.new.site) =
    told_then _ _ _ _ _ _ c.in_ok-history.ensures.told c.in_ok-whole.ensures.told (look c.args.file r whole) in
    told_weaker _ _ _ _ looked (λ w u k. mend_whole c.args.file r whole w u k c.if-whole.true)

pub returns-then-gate-eq-MOST_STORE-clause-told : goal.returns-then-gate-eq-MOST_STORE-clause-told
returns-then-gate-eq-MOST_STORE-clause-told g c =
    let r = c.in_ok-history.history in
    let whole = c.in_ok-whole.whole in
    let looked : Told (Looked c.args.file r whole) (g.W.Site.outside c.args.site.now)
    (g.W.Site.outside c.ends_there.new.site) =
    told_then _ _ _ _ _ _ c.in_ok-history.ensures.told c.in_ok-whole.ensures.told (look c.args.file r whole) in
    told_weaker _ _ _ _ looked (λ w u k. mend_limit c.args.file r whole w u k c.if-gate-eq-MOST_STORE.true)

pub returns-in_err-repair_end-clause-told : goal.returns-in_err-repair_end-clause-told
returns-in_err-repair_end-clause-told g c =
    let r = c.in_ok-history.history in
    let whole = c.in_ok-whole.whole in
    let p = err_from_is_err_and c.from_residual-in_err-repair_end.result c.from_residual-in_err-repair_end.ensures.1
    in
    let looked : Told (Looked c.args.file r whole) (g.W.Site.outside c.args.site.now)
    (g.W.Site.outside c.ends_there.new.site) =
    told_then _ _ _ _ _ _ c.in_ok-history.ensures.told c.in_ok-whole.ensures.told (look c.args.file r whole) in
    let end = g.W.Site.outside c.repair_end.new.site in
    let failed : Told (λ w v. IsSound v × Repairs c.args.file r.gate (Err c.in_err-repair_end.field-0.0) w v)
    (g.W.Site.outside c.ends_there.new.site) end =
    told_behind _ _ IsSound _ _ (g.met.W.Site.sound c.repair_end.new.site) c.in_err-repair_end.ensures.told
    (λ u v sound repairs. (sound, repairs)) in
    rw p.1 (told_then _ _ _ _ _ _ looked failed
    (λ w u v k both. mend_failed c.args.file r whole w u k c.one_history.ensures c.if-whole.false
    (λ limit. omega (arith, limit, c.if-gate-eq-MOST_STORE.false)) p.0 c.in_err-repair_end.field-0.0 v p.2 both.0
    both.1))

pub returns-clause-told : goal.returns-clause-told
returns-clause-told g c =
    let r = c.in_ok-history.history in
    let whole = c.in_ok-whole.whole in
    let looked : Told (Looked c.args.file r whole) (g.W.Site.outside c.args.site.now)
    (g.W.Site.outside c.ends_there.new.site) =
    told_then _ _ _ _ _ _ c.in_ok-history.ensures.told c.in_ok-whole.ensures.told (look c.args.file r whole) in
    told_then _ _ _ _ _ _ looked c.in_ok-repair_end.ensures.told
    (λ w u v k repairs. mend_done c.args.file r whole w u k c.one_history.ensures c.if-whole.false
    c.in_ok-repair_end.field-0 v
    (λ limit. omega (arith, limit, c.if-gate-eq-MOST_STORE.false)) repairs)

pub returns-in_err-history-clause-named : goal.returns-in_err-history-clause-named
returns-in_err-history-clause-named g c =
    let p = err_from_is_err_and c.from_residual.result c.from_residual.ensures.1 in
    rw (p.1, p.2) c.in_err-history.ensures.named
