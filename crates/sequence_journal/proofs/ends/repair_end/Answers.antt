use Rattle.road_io.specs.Told.{Told}
use Rattle.road_io.proofs.ToldCalls.{told_then, told_weaker}
use Rattle.sequence_journal.proofs.EndReturns.{Cutting, Ended, Shut, first, first_failed, second, second_failed}
use Rattle.sequence_journal.proofs.EndReturns.{third, third_failed, last_sync}
use Rattle.sequence_journal.proofs.ends.repair_end.Goals as goal

pub returns-in_err-cut-clause-told : goal.returns-in_err-cut-clause-told
returns-in_err-cut-clause-told g c =
    told_weaker _ _ _ _ c.in_err-cut.ensures.told (first_failed c.args.file c.args.gate c.from_residual.result _
    c.from_residual.ensures.0)

pub returns-in_err-sync-clause-told : goal.returns-in_err-sync-clause-told
returns-in_err-sync-clause-told g c =
    let cutting : Told (Cutting c.args.file c.args.gate) (g.W.Site.outside c.args.site.now)
    (g.W.Site.outside c.cut.new.self) = told_weaker _ _ _ _ c.in_ok-cut.ensures.told
    (first c.args.file c.args.gate _) in
    told_then _ _ _ _ _ _ cutting c.in_err-sync.ensures.told
    (second_failed c.args.file c.args.gate c.from_residual-in_err-sync.result _
    c.from_residual-in_err-sync.ensures.0)

pub returns-in_err-write_at-clause-told : goal.returns-in_err-write_at-clause-told
returns-in_err-write_at-clause-told g c =
    let cutting : Told (Cutting c.args.file c.args.gate) (g.W.Site.outside c.args.site.now)
    (g.W.Site.outside c.cut.new.self) = told_weaker _ _ _ _ c.in_ok-cut.ensures.told
    (first c.args.file c.args.gate _) in
    let ended : Told (Ended c.args.file c.args.gate) (g.W.Site.outside c.args.site.now)
    (g.W.Site.outside c.sync.new.self) = told_then _ _ _ _ _ _ cutting c.in_ok-sync.ensures.told
    (second c.args.file c.args.gate _) in
    told_then _ _ _ _ _ _ ended c.in_err-write_at.ensures.told
    (third_failed c.args.file c.args.gate c.from_residual-in_err-write_at.result _
    c.from_residual-in_err-write_at.ensures.0)

pub returns-clause-told : goal.returns-clause-told
returns-clause-told g c =
    let cutting : Told (Cutting c.args.file c.args.gate) (g.W.Site.outside c.args.site.now)
    (g.W.Site.outside c.cut.new.self) = told_weaker _ _ _ _ c.in_ok-cut.ensures.told
    (first c.args.file c.args.gate _) in
    let ended : Told (Ended c.args.file c.args.gate) (g.W.Site.outside c.args.site.now)
    (g.W.Site.outside c.sync.new.self) = told_then _ _ _ _ _ _ cutting c.in_ok-sync.ensures.told
    (second c.args.file c.args.gate _) in
    let shut : Told (Shut c.args.file c.args.gate) (g.W.Site.outside c.args.site.now)
    (g.W.Site.outside c.write_at.new.self) = told_then _ _ _ _ _ _ ended c.in_ok-write_at.ensures.told
    (third c.args.file c.args.gate _) in
    told_then _ _ _ _ _ _ shut c.sync-2.ensures.told (last_sync c.args.file c.args.gate c.sync-2.result)
