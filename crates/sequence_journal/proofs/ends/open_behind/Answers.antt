use Rattle.road_io.specs.Told.{Told}
use Rattle.road_io.proofs.ToldCalls.{told_then, told_weaker}
use Rattle.sequence_journal.proofs.GateReturns.{Behind, Staged, Tried, first, first_failed, second, second_failed}
use Rattle.sequence_journal.proofs.GateReturns.{third, third_failed, last_sync}
use Rattle.sequence_journal.proofs.ends.open_behind.Goals as goal

pub returns-in_err-write_at-clause-told : goal.returns-in_err-write_at-clause-told
returns-in_err-write_at-clause-told g c =
    told_weaker _ _ _ _ c.in_err-write_at.ensures.told (first_failed c.args.file c.args.gate c.args.chunk.now
    c.from_residual.result _ c.from_residual.ensures.0)

pub returns-in_err-sync-clause-told : goal.returns-in_err-sync-clause-told
returns-in_err-sync-clause-told g c =
    let behind : Told (Behind c.args.file c.args.gate c.args.chunk.now) (g.W.Site.outside c.args.site.now)
    (g.W.Site.outside c.write_at.new.self) =
    told_weaker _ _ _ _ c.in_ok-write_at.ensures.told (first c.args.file c.args.gate c.args.chunk.now _) in
    told_then _ _ _ _ _ _ behind c.in_err-sync.ensures.told
    (second_failed c.args.file c.args.gate c.args.chunk.now c.from_residual-in_err-sync.result _
    c.from_residual-in_err-sync.ensures.0)

pub returns-in_err-write_at-2-clause-told : goal.returns-in_err-write_at-2-clause-told
returns-in_err-write_at-2-clause-told g c =
    let behind : Told (Behind c.args.file c.args.gate c.args.chunk.now) (g.W.Site.outside c.args.site.now)
    (g.W.Site.outside c.write_at.new.self) =
    told_weaker _ _ _ _ c.in_ok-write_at.ensures.told (first c.args.file c.args.gate c.args.chunk.now _) in
    let staged : Told (Staged c.args.file c.args.gate c.args.chunk.now) (g.W.Site.outside c.args.site.now)
    (g.W.Site.outside c.sync.new.self) =
    told_then _ _ _ _ _ _ behind c.in_ok-sync.ensures.told (second c.args.file c.args.gate c.args.chunk.now _) in
    told_then _ _ _ _ _ _ staged c.in_err-write_at-2.ensures.told
    (third_failed c.args.file c.args.gate c.args.chunk.now c.from_residual-in_err-write_at-2.result _
    c.from_residual-in_err-write_at-2.ensures.0)

pub returns-clause-told : goal.returns-clause-told
returns-clause-told g c =
    let behind : Told (Behind c.args.file c.args.gate c.args.chunk.now) (g.W.Site.outside c.args.site.now)
    (g.W.Site.outside c.write_at.new.self) =
    told_weaker _ _ _ _ c.in_ok-write_at.ensures.told (first c.args.file c.args.gate c.args.chunk.now _) in
    let staged : Told (Staged c.args.file c.args.gate c.args.chunk.now) (g.W.Site.outside c.args.site.now)
    (g.W.Site.outside c.sync.new.self) =
    told_then _ _ _ _ _ _ behind c.in_ok-sync.ensures.told (second c.args.file c.args.gate c.args.chunk.now _) in
    let tried : Told (Tried c.args.file c.args.gate c.args.chunk.now) (g.W.Site.outside c.args.site.now)
    (g.W.Site.outside c.write_at-2.new.self) =
    told_then _ _ _ _ _ _ staged c.in_ok-write_at-2.ensures.told (third c.args.file c.args.gate c.args.chunk.now _) in
    told_then _ _ _ _ _ _ tried c.sync-2.ensures.told (last_sync c.args.file c.args.gate c.args.chunk.now
    c.sync-2.result)
