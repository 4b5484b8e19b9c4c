use Rattle.std.proofs.Common.{Option, Ok, Err, refl, ◌∙◌, arith}
use Rattle.road_io.specs.declared.outside.Which.{Which}
use Rattle.opl_lexer.specs.declared.mode.Mode.TheVariants.{Extract}
use Rattle.sequence_journal.specs.declared.journal.Journal.{Journal}
use Rattle.sequence_journal.specs.declared.error.JournalError.TheVariants.{StoreExists}
use Rattle.osmroad.proofs.Prepared.{no_memory}
use Rattle.osmroad.proofs.AnsweredFaults.{reads_calm, failed_reads, refused_reads, input_reads, calls_calm}
use Rattle.osmroad.proofs.AnsweredFaults.{failed_calls, fault_calls, reply_calls, input_calls, later_calls}
use Rattle.osmroad.proofs.CreatedStores.{store_exists, not_looked, extract_unread, create_failed, told_creates}
use Rattle.osmroad.proofs.CreatedStores.{not_created, created}
use Rattle.osmroad.proofs.create.create.Goals as goal

-- ---- a file has an open base

pub returns-in-Ok-Some-clause-prepares : goal.returns-in-Ok-Some-clause-prepares
returns-in-Ok-Some-clause-prepares g c = store_exists c.args.number (g.S.Source.bytes_left c.args.source.now)
    c.in-Ok-Some.field-0-0 (g.W.Site.outside c.args.site.now) (g.W.Site.outside c.find_live.new.site)
    c.refuse_store.result (rw c.in-Ok-Some.field-0-is at c.in-Ok-Some.ensures.told) c.refuse_store.ensures

pub returns-in-Ok-Some-clause-reads : goal.returns-in-Ok-Some-clause-reads
returns-in-Ok-Some-clause-reads g c =
    refused_reads StoreExists c.refuse_store.result _ _ c.refuse_store.ensures (λ rises. omega arith)

pub returns-in-Ok-Some-clause-calls : goal.returns-in-Ok-Some-clause-calls
returns-in-Ok-Some-clause-calls g c = later_calls _ _ _ c.refuse_store.result
    (c.in-Ok-Some.ensures.counts.stays (λ e. (cc)))
    (reply_calls _ _ c.refuse_store.result c.refuse_store.ensures _ _ refl)

-- ---- the files aren't looked at

pub returns-in-Err-clause-prepares : goal.returns-in-Err-clause-prepares
returns-in-Err-clause-prepares g c =
    let refused = c.refuse_store-in-Err in
    not_looked c.args.number (g.S.Source.bytes_left c.args.source.now) c.in-Err.error
    (g.W.Site.outside c.args.site.now) (g.W.Site.outside c.find_live.new.site) refused.result
    c.in-Err.ensures.told c.in-Err.ensures.named refused.ensures

pub returns-in-Err-clause-reads : goal.returns-in-Err-clause-reads
returns-in-Err-clause-reads g c =
    let refused = c.refuse_store-in-Err in
    refused_reads c.in-Err.error refused.result _ _ refused.ensures (λ rises. omega arith)

pub returns-in-Err-clause-calls : goal.returns-in-Err-clause-calls
returns-in-Err-clause-calls g c =
    let refused = c.refuse_store-in-Err in
    fault_calls {T = Option Which} c.in-Err.error refused.result _ _ refused.ensures c.in-Err.ensures.counts

-- ---- the extract isn't read

pub returns-in-Err-read_events-clause-prepares : goal.returns-in-Err-read_events-clause-prepares
returns-in-Err-read_events-clause-prepares g c =
    let failed = c.in-Err-read_events in
    extract_unread c.args.number (g.W.Site.outside c.args.site.now) (g.W.Site.outside c.find_live.new.site)
    (rw c.in-Ok-None.field-0-is at c.in-Ok-None.ensures.told)
    (g.S.Source.bytes_left c.args.source.now) (g.S.Source.bytes_left c.read_events.new.source) _ _ failed.error
    c.refuse_input.result failed.ensures.err c.refuse_input.ensures

pub returns-in-Err-read_events-clause-reads : goal.returns-in-Err-read_events-clause-reads
returns-in-Err-read_events-clause-reads g c =
    let failed = c.in-Err-read_events in
    input_reads Extract failed.error _ _ _ _ c.refuse_input.result failed.ensures.err
    (λ rises. let e = failed.ensures.each_fault rises in cc) c.refuse_input.ensures

pub returns-in-Err-read_events-clause-calls : goal.returns-in-Err-read_events-clause-calls
returns-in-Err-read_events-clause-calls g c =
    input_calls c.in-Err-read_events.error c.refuse_input.result _ _ c.refuse_input.ensures
    (c.in-Ok-None.ensures.counts.stays (λ e. (cc)))

-- ---- memory ends for the line

pub returns-in_err-line-clause-prepares : goal.returns-in_err-line-clause-prepares
returns-in_err-line-clause-prepares g c =
    create_failed c.args.number (g.W.Site.outside c.args.site.now) (g.W.Site.outside c.find_live.new.site)
    (rw c.in-Ok-None.field-0-is at c.in-Ok-None.ensures.told)
    (g.S.Source.bytes_left c.args.source.now) (g.S.Source.bytes_left c.read_events.new.source) c.in-Ok.events.items
    c.from_residual.result (no_memory c.from_residual.result c.from_residual.ensures.1) c.in-Ok.ensures.ok

pub returns-in_err-line-clause-reads : goal.returns-in_err-line-clause-reads
returns-in_err-line-clause-reads g c = failed_reads c.from_residual.result _ _
    (no_memory c.from_residual.result c.from_residual.ensures.1)
    (λ rises. let e = c.in-Ok.ensures.each_fault rises in cc)

pub returns-in_err-line-clause-calls : goal.returns-in_err-line-clause-calls
returns-in_err-line-clause-calls g c = failed_calls c.from_residual.result _ _
    (no_memory c.from_residual.result c.from_residual.ensures.1) (c.in-Ok-None.ensures.counts.stays (λ e. (cc)))

-- ---- the store is made

pub returns-in-Ok-create_store-clause-prepares : goal.returns-in-Ok-create_store-clause-prepares
returns-in-Ok-create_store-clause-prepares g c =
    let r = c.in-Ok.ensures.ok in
    let before = g.W.Site.outside c.args.site.now in
    let now = g.W.Site.outside c.create_store.new.site in
    let j = c.in-Ok-create_store.field-0 in
    created c.args.number c.in-Ok.events.items r.bytes (record { within = r.within; read = r.gives })
    (g.S.Source.bytes_left c.args.source.now) (g.S.Source.bytes_left c.read_events.new.source) r.took r.ended before now
    c.journal_on_store.ensures.stand c.journal_on_store.ensures.stopped j c.new.result
    (c.new.ensures.0, c.new.ensures.1 ∙ c.in_ok-line.ensures)
    (told_creates c.args.number.0 c.in-Ok.events.items (Ok j) before (g.W.Site.outside c.find_live.new.site) now
    (rw c.in-Ok-None.field-0-is at c.in-Ok-None.ensures.told)
    (rw c.deref.ensures.value at c.in-Ok-create_store.ensures.told))

pub returns-in-Ok-create_store-clause-reads : goal.returns-in-Ok-create_store-clause-reads
returns-in-Ok-create_store-clause-reads g c =
    reads_calm _ _ _ (λ rises. let e = c.in-Ok.ensures.each_fault rises in cc) (λ e. (cc))

pub returns-in-Ok-create_store-clause-calls : goal.returns-in-Ok-create_store-clause-calls
returns-in-Ok-create_store-clause-calls g c = calls_calm _ _ _
    (c.in-Ok-create_store.ensures.counts.stays (λ e. (cc)) ∙ c.in-Ok-None.ensures.counts.stays (λ e. (cc))) (λ e. (cc))

-- ---- the store isn't made

pub returns-clause-prepares : goal.returns-clause-prepares
returns-clause-prepares g c =
    let r = c.in-Ok.ensures.ok in
    let before = g.W.Site.outside c.args.site.now in
    let now = g.W.Site.outside c.create_store.new.site in
    let failed = c.in-Err-create_store in
    let refused = c.refuse_store-in-Err-create_store in
    not_created c.args.number c.in-Ok.events.items r.bytes (record { within = r.within; read = r.gives })
    (g.S.Source.bytes_left c.args.source.now) (g.S.Source.bytes_left c.read_events.new.source) r.took r.ended before now
    failed.error refused.result failed.ensures.named refused.ensures
    (told_creates c.args.number.0 c.in-Ok.events.items (Err failed.error) before
    (g.W.Site.outside c.find_live.new.site) now (rw c.in-Ok-None.field-0-is at c.in-Ok-None.ensures.told)
    (rw c.deref.ensures.value at failed.ensures.told))

pub returns-clause-reads : goal.returns-clause-reads
returns-clause-reads g c =
    let refused = c.refuse_store-in-Err-create_store in
    refused_reads c.in-Err-create_store.error refused.result _ _ refused.ensures
    (λ rises. let e = c.in-Ok.ensures.each_fault rises in cc)

pub returns-clause-calls : goal.returns-clause-calls
returns-clause-calls g c =
    let refused = c.refuse_store-in-Err-create_store in
    later_calls _ _ _ refused.result (c.in-Ok-None.ensures.counts.stays (λ e. (cc)))
    (fault_calls {T = Journal} c.in-Err-create_store.error refused.result _ _ refused.ensures
    c.in-Err-create_store.ensures.counts)
