use Rattle.std.proofs.Common.{List, Ok, Err, ◌∙◌, subst, arith}
use Rattle.road_base.specs.declared.event.Event.{Event}
use Rattle.opl_lexer.specs.declared.mode.Mode.TheVariants.{Change}
use Rattle.road_io.specs.Told.{Told}
use Rattle.road_io.proofs.ToldCalls.{told_gives}
use Rattle.sequence_journal.specs.declared.load.Loaded.{Loaded}
use Rattle.sequence_journal.specs.Journal.{IsReady}
use Rattle.sequence_journal.specs.Adding.{Adds, AddAnswer}
use Rattle.store_switch.specs.StoreLoading.{LoadsStore}
use Rattle.osmroad.proofs.Prepared.{no_memory}
use Rattle.osmroad.proofs.AnsweredFaults.{reads_calm, failed_reads, refused_reads, unread_reads, calls_calm}
use Rattle.osmroad.proofs.AnsweredFaults.{failed_calls, fault_calls, unread_calls, added_calls, later_calls}
use Rattle.osmroad.proofs.AppliedChanges.{apply_refused, unread_refused, change_failed, told_applies}
use Rattle.osmroad.proofs.AppliedChanges.{change_added, change_not_added}
use Rattle.osmroad.proofs.apply.apply.Goals as goal

-- ---- the store isn't loaded

pub returns-in-Err-clause-prepares : goal.returns-in-Err-clause-prepares
returns-in-Err-clause-prepares g c =
    let laws = c.store_laws.ensures in
    apply_refused laws.store c.args.number (g.S.Source.bytes_left c.args.source.now)
    (g.W.Site.outside c.args.site.now) (g.W.Site.outside c.load_store.new.site) c.in-Err.error c.refuse_store.result
    c.in-Err.ensures.named c.refuse_store.ensures c.in-Err.ensures.told

pub returns-in-Err-clause-reads : goal.returns-in-Err-clause-reads
returns-in-Err-clause-reads g c =
    refused_reads c.in-Err.error c.refuse_store.result _ _ c.refuse_store.ensures (λ rises. omega arith)

pub returns-in-Err-clause-calls : goal.returns-in-Err-clause-calls
returns-in-Err-clause-calls g c =
    fault_calls {T = Loaded} c.in-Err.error c.refuse_store.result _ _ c.refuse_store.ensures c.in-Err.ensures.counts

-- ---- the change isn't read

pub returns-in-Err-read_events-clause-prepares : goal.returns-in-Err-read_events-clause-prepares
returns-in-Err-read_events-clause-prepares g c =
    let laws = c.store_laws.ensures in
    let held = g.S.Source.bytes_left c.args.source.now in
    let left = g.S.Source.bytes_left c.read_events.new.source in
    let before = g.W.Site.outside c.args.site.now in
    let loaded = g.W.Site.outside c.load_store.new.site in
    let failed = c.in-Err-read_events in
    unread_refused laws.store c.args.number c.in-Ok.loaded before loaded c.in-Ok.ensures.told held left _ _ failed.error
    c.refuse_unread.result failed.ensures.err c.refuse_unread.ensures.fault c.refuse_unread.ensures.other

pub returns-in-Err-read_events-clause-reads : goal.returns-in-Err-read_events-clause-reads
returns-in-Err-read_events-clause-reads g c =
    let failed = c.in-Err-read_events in
    unread_reads Change failed.error c.in-Ok.loaded.journal c.args.number _ _ _ _ c.refuse_unread.result
    failed.ensures.err (λ rises. let e = failed.ensures.each_fault rises in cc) c.refuse_unread.ensures.fault
    c.refuse_unread.ensures.other

pub returns-in-Err-read_events-clause-calls : goal.returns-in-Err-read_events-clause-calls
returns-in-Err-read_events-clause-calls g c =
    unread_calls c.in-Err-read_events.error c.in-Ok.loaded.journal c.args.number c.refuse_unread.result _ _
    c.refuse_unread.ensures.fault c.refuse_unread.ensures.other (c.in-Ok.ensures.counts.stays (λ e. (cc)))

-- ---- memory ends for the line

pub returns-in_err-line-clause-prepares : goal.returns-in_err-line-clause-prepares
returns-in_err-line-clause-prepares g c =
    let laws = c.store_laws.ensures in
    let held = g.S.Source.bytes_left c.args.source.now in
    let left = g.S.Source.bytes_left c.read_events.new.source in
    let before = g.W.Site.outside c.args.site.now in
    let loaded = g.W.Site.outside c.load_store.new.site in
    change_failed laws.store c.args.number c.in-Ok.loaded before loaded c.in-Ok.ensures.told held left
    c.in-Ok-read_events.change.items c.from_residual.result
    (no_memory c.from_residual.result c.from_residual.ensures.1) c.in-Ok-read_events.ensures.ok

pub returns-in_err-line-clause-reads : goal.returns-in_err-line-clause-reads
returns-in_err-line-clause-reads g c = failed_reads c.from_residual.result _ _
    (no_memory c.from_residual.result c.from_residual.ensures.1)
    (λ rises. let e = c.in-Ok-read_events.ensures.each_fault rises in cc)

pub returns-in_err-line-clause-calls : goal.returns-in_err-line-clause-calls
returns-in_err-line-clause-calls g c = failed_calls c.from_residual.result _ _
    (no_memory c.from_residual.result c.from_residual.ensures.1) (c.in-Ok.ensures.counts.stays (λ e. (cc)))

-- ---- the change is added

pub append-requires : goal.append-requires
append-requires g c = λ alive. told_gives (g.W.Site.outside c.args.site.now) (g.W.Site.outside c.load_store.new.site)
    (LoadsStore (Ok c.in-Ok.loaded)) (IsReady c.in-Ok.loaded.journal) c.in-Ok.ensures.told
    (λ w v k. (k.answer.history, k.answer.ready.at))

pub returns-in-Ok-append-clause-prepares : goal.returns-in-Ok-append-clause-prepares
returns-in-Ok-append-clause-prepares g c =
    let laws = c.store_laws.ensures in
    let held = g.S.Source.bytes_left c.args.source.now in
    let left = g.S.Source.bytes_left c.read_events.new.source in
    let before = g.W.Site.outside c.args.site.now in
    let loaded = g.W.Site.outside c.load_store.new.site in
    let now = g.W.Site.outside c.append.new.site in
    let r = c.in-Ok-read_events.ensures.ok in
    let change = c.in-Ok-read_events.change.items in
    let u = c.in-Ok-append.field-0 in
    change_added laws.store c.args.number laws.change c.in-Ok.loaded c.append.new.self change r.bytes
    (record { within = r.within; read = r.gives }) _ _ before now held left r.took r.ended u c.new.result
    (c.new.ensures.0, c.new.ensures.1 ∙ c.in_ok-line.ensures)
    (rw c.deref.ensures.value at c.in-Ok-append.ensures.answer)
    (told_applies c.in-Ok.loaded c.append.new.self change (Ok u) before loaded now c.in-Ok.ensures.told
    (rw c.deref.ensures.value at c.in-Ok-append.ensures.told))

pub returns-in-Ok-append-clause-reads : goal.returns-in-Ok-append-clause-reads
returns-in-Ok-append-clause-reads g c =
    reads_calm _ _ _ (λ rises. let e = c.in-Ok-read_events.ensures.each_fault rises in cc) (λ e. (cc))

pub returns-in-Ok-append-clause-calls : goal.returns-in-Ok-append-clause-calls
returns-in-Ok-append-clause-calls g c = calls_calm _ _ _
    (c.in-Ok-append.ensures.answer.2 ∙ c.in-Ok.ensures.counts.stays (λ e. (cc))) (λ e. (cc))

-- ---- the change isn't added

pub returns-clause-prepares : goal.returns-clause-prepares
returns-clause-prepares g c =
    let laws = c.store_laws.ensures in
    let held = g.S.Source.bytes_left c.args.source.now in
    let left = g.S.Source.bytes_left c.read_events.new.source in
    let before = g.W.Site.outside c.args.site.now in
    let loaded = g.W.Site.outside c.load_store.new.site in
    let now = g.W.Site.outside c.append.new.site in
    let r = c.in-Ok-read_events.ensures.ok in
    let change = c.in-Ok-read_events.change.items in
    let failed = c.in-Err-append in
    let refused = c.refuse_store-in-Err-append in
    let answer = subst (λ (events : List Event). AddAnswer c.in-Ok.loaded.journal c.append.new.self c.args.number events
    (Err failed.error) (g.W.Site.faults c.load_store.new.site) (g.W.Site.faults c.append.new.site))
    c.deref.ensures.value failed.ensures.answer in
    let adds = subst (λ (events : List Event). Told (Adds c.in-Ok.loaded.journal c.append.new.self events
    (Err failed.error)) loaded now) c.deref.ensures.value failed.ensures.told in
    change_not_added laws.store c.args.number laws.change c.in-Ok.loaded c.append.new.self change r.bytes
    (record { within = r.within; read = r.gives }) _ _ before now held left r.took r.ended failed.error refused.result
    c.in-Ok.ensures.not_closed answer refused.ensures
    (told_applies c.in-Ok.loaded c.append.new.self change (Err failed.error) before loaded now c.in-Ok.ensures.told
    adds)

pub returns-clause-reads : goal.returns-clause-reads
returns-clause-reads g c =
    let refused = c.refuse_store-in-Err-append in
    refused_reads c.in-Err-append.error refused.result _ _ refused.ensures
    (λ rises. let e = c.in-Ok-read_events.ensures.each_fault rises in cc)

pub returns-clause-calls : goal.returns-clause-calls
returns-clause-calls g c =
    let failed = c.in-Err-append in
    let refused = c.refuse_store-in-Err-append in
    later_calls _ _ _ refused.result (c.in-Ok.ensures.counts.stays (λ e. (cc)))
    (added_calls c.in-Ok.loaded.journal c.append.new.self c.args.number _ failed.error refused.result _ _
    c.in-Ok.ensures.not_closed refused.ensures failed.ensures.answer)
