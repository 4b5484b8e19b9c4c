use Rattle.std.proofs.Common.{◌≡◌, ◌≢◌, ◌<◌, ◌∙◌, ◌++◌, ℕ, List, [], Err, length, take, refl, sym, ap, subst, arith}
use Rattle.std.proofs.Common.{inl, length-append, true, false}
use Rattle.std.proofs.lemmas.Grind.{common_steps}
use Rattle.session.specs.declared.end.End.TheVariants.{NoMemory, ReadFault}
use Rattle.session.specs.Conversing.{CountsCalls}
use Rattle.session.specs.Answering.{CountsStops}
use Rattle.session.specs.Talking.{held, replies_of, costs_of}
use Rattle.road_io.specs.Parts.{Took}
use Rattle.road_io.proofs.SourceParts.{took_nothing, took_more, took_still, took_all, rose_since}
use Rattle.session.proofs.ClosedSessions.{ends_memory, ends_read}
use Rattle.session.proofs.ReadSessions.{conversed, took_whole, behind_nothing, not_at_end, not_read_fault, total_read}
use Rattle.session.proofs.ReadSessions.{reads_calm, calls_calm, read_fault_inside, goes_still, goes_first}
use Rattle.session.proofs.HeldSource.{behind_of}
use Rattle.session.proofs.Optional.{at_some}
use Rattle.session.proofs.BuiltMessages.{builds_all}
use Rattle.session.proofs.BuiltSessions.{read_begins, read_building, read_of, told_at, builds_at_end, builds_nothing}
use Rattle.session.proofs.conversing.follow.Goals as goal

pub returns-in_default-clause-converses : goal.returns-in_default-clause-converses
returns-in_default-clause-converses g c =
    let talk = c.args.talk.now in
    let R = replies_of talk in
    let was = g.S.Source.bytes_left c.args.source.now in
    let before = g.W.Site.outside c.args.site.now in
    let stands = g.A.Answerer.stands talk.answerer in
    conversed R (held talk) NoMemory was was before before [] false (took_nothing was)
    (goes_still (behind_of was) (NoMemory ≢ ReadFault)) (λ at. absurd (not_at_end NoMemory tt at))
    (ends_memory c.store_laws.ensures R (held talk) [] false c.args.input stands talk.journal before before
    (goes_first c.store_laws.ensures R stands talk.journal c.args.input before c.requires.empty c.requires.opens))

pub loop-n-init : goal.loop-n-init
loop-n-init g c =
    let talk = c.args.talk.now in
    let before = g.W.Site.outside c.args.site.now in
    let R = replies_of talk in
    let stands = g.A.Answerer.stands talk.answerer in
    let first = goes_first c.store_laws.ensures R stands talk.journal c.args.input before c.requires.empty
    c.requires.opens in
    record {
      read = [];
      took = took_nothing (g.S.Source.bytes_left c.args.source.now);
      goes = record { same = refl; goes = first };
      builds = read_begins talk c.args.input c.args.steps.now before c.requires.empty;
      total = total_read R (held talk) [] c.args.input (held talk) before before first;
      calm_reads = refl;
      calm_calls = refl;
      not_closed = c.requires.not_closed;
      room = c.in-Ok.ensures.len;
    }

pub returns-in_default-clause-builds : goal.returns-in_default-clause-builds
returns-in_default-clause-builds g c = λ bytes behind w opening was is tells o.
    let left = g.S.Source.bytes_left c.args.source.now in (
      [],
      read_of [] bytes behind left left (took_nothing left) was is,
      inl (builds_nothing (costs_of c.args.talk.now) opening c.args.steps.now),
    )

-- ---- a read failed

pub returns-in_default-read-clause-converses : goal.returns-in_default-read-clause-converses
returns-in_default-read-clause-converses g c =
    let start = c.args.talk.now in
    let talk = c.loop-n.talk in
    let R = replies_of start in
    let i = c.loop-n.invariant in
    let was = g.S.Source.bytes_left c.args.source.now in
    let left = g.S.Source.bytes_left c.loop-n.source in
    let after = g.S.Source.bytes_left c.read.new.self in
    let before = g.W.Site.outside c.args.site.now in
    let now = g.W.Site.outside c.loop-n.site in
    let failed = c.in_default-read in
    conversed R (held start) ReadFault was after before now i.read false
    (took_still i.read c.deref_mut.result.now c.read.new.buf failed.field-0 was left after i.took failed.ensures.told)
    (goes_still (behind_of after) (ReadFault ≢ ReadFault)) (λ at. absurd (read_fault_inside at))
    (ends_read c.store_laws.ensures R (held start) i.read false c.loop-n.input (g.A.Answerer.stands talk.answerer)
    talk.journal before now i.goes.goes)

pub returns-in_default-read-clause-reads : goal.returns-in_default-read-clause-reads
returns-in_default-read-clause-reads g c =
    let i = c.loop-n.invariant in
    record {
      cause = λ e. rose_since _ _ _ (omega (arith, i.calm_reads)) (c.in_default-read.ensures.counts.cause refl);
      each = λ rises. refl;
    }

pub returns-in_default-read-clause-calls : goal.returns-in_default-read-clause-calls
returns-in_default-read-clause-calls g c =
    calls_calm (g.W.Site.faults c.args.site.now) (g.W.Site.faults c.loop-n.site) ReadFault
    c.loop-n.invariant.calm_calls (λ e. (cc))

pub returns-in_default-read-clause-builds : goal.returns-in_default-read-clause-builds
returns-in_default-read-clause-builds g c = λ bytes behind w opening was is tells o.
    let i = c.loop-n.invariant in
    let start = c.args.talk.now in
    let source = g.S.Source.bytes_left c.args.source.now in
    let left = g.S.Source.bytes_left c.loop-n.source in
    let after = g.S.Source.bytes_left c.read.new.self in
    let failed = c.in_default-read in
    let now = told_at (g.W.Site.outside c.args.site.now) (g.W.Site.outside c.loop-n.site) _ w i.builds tells in (
      i.read,
      read_of i.read bytes behind source after (took_still i.read c.deref_mut.result.now c.read.new.buf failed.field-0
          source left after i.took failed.ensures.told) was is,
      inl (builds_all (costs_of start) opening i.read c.loop-n.input (held c.loop-n.talk) c.args.steps.now
          c.loop-n.steps now.0 (now.2 opening o).builds),
    )

-- ---- all was read

pub finish-requires-clause-not_closed : goal.finish-requires-clause-not_closed
finish-requires-clause-not_closed g c = c.loop-n.invariant.not_closed

pub finish-requires-clause-goes : goal.finish-requires-clause-goes
finish-requires-clause-goes g c =
    let i = c.loop-n.invariant in (c.args.talk.now, i.read, g.W.Site.outside c.args.site.now, i.goes)

pub returns-then-n-eq0-clause-converses : goal.returns-then-n-eq0-clause-converses
returns-then-n-eq0-clause-converses g c =
    let start = c.args.talk.now in
    let i = c.loop-n.invariant in
    let was = g.S.Source.bytes_left c.args.source.now in
    let left = g.S.Source.bytes_left c.loop-n.source in
    let after = g.S.Source.bytes_left c.read.new.self in
    let before = g.W.Site.outside c.args.site.now in
    let now = g.W.Site.outside c.finish.new.site in
    let room : 0 < length c.deref_mut.result.now = omega (arith, c.deref_mut.ensures.len, i.room) in
    let told = took_all i.read c.deref_mut.result.now c.read.new.buf c.in-Ok-read.n was left after room c.if-n-eq0.true
    i.took c.in-Ok-read.ensures.told in
    conversed (replies_of start) (held start) c.finish.result was after before now i.read true
    (took_whole i.read was after told)
    (λ at_end. (behind_nothing i.read was after told, c.finish.ensures.named)) (λ at. refl)
    (c.finish.ensures.ends start i.read before i.goes)

pub returns-then-n-eq0-clause-builds : goal.returns-then-n-eq0-clause-builds
returns-then-n-eq0-clause-builds g c = λ bytes behind w opening was is tells o.
    let start = c.args.talk.now in
    let i = c.loop-n.invariant in
    let source = g.S.Source.bytes_left c.args.source.now in
    let left = g.S.Source.bytes_left c.loop-n.source in
    let after = g.S.Source.bytes_left c.read.new.self in
    let room : 0 < length c.deref_mut.result.now = omega (arith, c.deref_mut.ensures.len, i.room) in
    let told = took_all i.read c.deref_mut.result.now c.read.new.buf c.in-Ok-read.n source left after room
    c.if-n-eq0.true i.took c.in-Ok-read.ensures.told in
    let here = g.W.Site.outside c.loop-n.site in
    let now = told_at (g.W.Site.outside c.args.site.now) here _ w i.builds tells in (
      i.read,
      read_of i.read bytes behind source after (took_whole i.read source after told) was is,
      builds_at_end (costs_of start) opening i.read behind after (c.finish.result ≢ ReadFault) c.args.steps.now
          c.finish.new.steps (behind_nothing i.read source after told) is c.finish.ensures.named
          (at_some here now.0 _ now.1 c.finish.ensures.builds start opening i.read c.args.steps.now (now.2 opening o)),
    )

pub returns-then-n-eq0-clause-reads : goal.returns-then-n-eq0-clause-reads
returns-then-n-eq0-clause-reads g c =
    reads_calm (g.S.Source.faults c.args.source.now) (g.S.Source.faults c.read.new.self) c.finish.result
    (c.in-Ok-read.ensures.counts.stays refl ∙ c.loop-n.invariant.calm_reads) c.finish.ensures.named

pub returns-then-n-eq0-clause-calls : goal.returns-then-n-eq0-clause-calls
returns-then-n-eq0-clause-calls g c =
    subst (λ (n : ℕ). CountsCalls n (g.W.Site.faults c.finish.new.site) c.finish.result)
    c.loop-n.invariant.calm_calls c.finish.ensures.calls

-- ---- a part is taken

pub take_part-requires-clause-not_closed : goal.take_part-requires-clause-not_closed
take_part-requires-clause-not_closed g c = c.loop-n.invariant.not_closed

pub take_part-requires-clause-goes : goal.take_part-requires-clause-goes
take_part-requires-clause-goes g c =
    let i = c.loop-n.invariant in (c.args.talk.now, i.read, g.W.Site.outside c.args.site.now, i.goes)

pub take_part-requires-clause-small : goal.take_part-requires-clause-small
take_part-requires-clause-small g c =
    omega (arith, c.front.ensures.len, c.in-Ok-read.ensures.fits, c.deref_mut.ensures.len, c.loop-n.invariant.room)

pub loop-n-smaller : goal.loop-n-smaller
loop-n-smaller g c =
    let start = c.args.talk.now in
    let i = c.loop-n.invariant in
    let part = c.front.result.now in
    let before = g.W.Site.outside c.args.site.now in
    let goes = (c.in-Ok-take_part.ensures.goes start i.read before i.goes).goes in
    let total : c.take_part.new.input.total ≡ length (i.read ++ part) =
    total_read (replies_of start) (held start) (i.read ++ part) c.take_part.new.input (held c.take_part.new.talk)
    before (g.W.Site.outside c.take_part.new.site) goes in
    let some : 0 < c.in-Ok-read.n = grind (arith, common_steps, c.if-n-eq0.false) in
    omega (
      arith,
      c.take_part.new.input.session_fits,
      total,
      i.total,
      c.front.ensures.len,
      some,
      length-append i.read part,
    )

pub loop-n-preserved : goal.loop-n-preserved
loop-n-preserved g c =
    let start = c.args.talk.now in
    let i = c.loop-n.invariant in
    let talk = c.take_part.new.talk in
    let was = g.S.Source.bytes_left c.args.source.now in
    let left = g.S.Source.bytes_left c.loop-n.source in
    let after = g.S.Source.bytes_left c.read.new.self in
    let before = g.W.Site.outside c.args.site.now in
    let now = g.W.Site.outside c.take_part.new.site in
    let part = c.front.result.now in
    let n = c.in-Ok-read.n in
    let here : c.deref.result.now ≡ c.read.new.buf = grind (arith, common_steps) in
    let taken : part ≡ take n c.read.new.buf = c.front.ensures.value ∙ ap (λ (l : List ℕ). take n l) here in
    let goes = c.in-Ok-take_part.ensures.goes start i.read before i.goes in
    record {
      read = i.read ++ part;
      took = subst (λ (l : List ℕ). Took (i.read ++ l) was after) (sym taken)
          (took_more i.read c.deref_mut.result.now c.read.new.buf n was left after i.took c.in-Ok-read.ensures.told);
      goes = goes;
      builds = read_building start c.loop-n.talk talk c.args.input c.loop-n.input c.take_part.new.input
          c.args.steps.now c.loop-n.steps c.take_part.new.steps before (g.W.Site.outside c.loop-n.site) i.read part
          c.args.steps.now now i.builds c.in-Ok-take_part.ensures.builds;
      total = total_read (replies_of start) (held start) (i.read ++ part) c.take_part.new.input (held talk) before now
          goes.goes;
      calm_reads = c.in-Ok-read.ensures.counts.stays refl ∙ i.calm_reads;
      calm_calls = c.in-Ok-take_part.ensures.calls.stays (λ e. (cc)) ∙ i.calm_calls;
      not_closed = c.in-Ok-take_part.ensures.not_closed;
      room = i.room;
    }

-- ---- the session doesn't go on

pub returns-in-Err-clause-converses : goal.returns-in-Err-clause-converses
returns-in-Err-clause-converses g c =
    let start = c.args.talk.now in
    let i = c.loop-n.invariant in
    let was = g.S.Source.bytes_left c.args.source.now in
    let left = g.S.Source.bytes_left c.loop-n.source in
    let after = g.S.Source.bytes_left c.read.new.self in
    let before = g.W.Site.outside c.args.site.now in
    let part = c.front.result.now in
    let n = c.in-Ok-read.n in
    let here : c.deref.result.now ≡ c.read.new.buf = grind (arith, common_steps) in
    let taken : part ≡ take n c.read.new.buf = c.front.ensures.value ∙ ap (λ (l : List ℕ). take n l) here in
    conversed (replies_of start) (held start) c.close.result was after before (g.W.Site.outside c.close.new.site)
    (i.read ++ part) false
    (subst (λ (l : List ℕ). Took (i.read ++ l) was after) (sym taken)
    (took_more i.read c.deref_mut.result.now c.read.new.buf n was left after i.took c.in-Ok-read.ensures.told))
    (goes_still (behind_of after) (c.close.result ≢ ReadFault))
    (λ at. absurd (not_at_end c.close.result c.close.ensures.named at))
    (c.close.ensures.ends start (i.read ++ part) false before (c.in-Err.ensures.fixed ∙ i.goes.same)
    (c.in-Err.ensures.halts start i.read before i.goes))

pub returns-in-Err-clause-builds : goal.returns-in-Err-clause-builds
returns-in-Err-clause-builds g c = λ bytes behind w opening was is tells o.
    let start = c.args.talk.now in
    let i = c.loop-n.invariant in
    let source = g.S.Source.bytes_left c.args.source.now in
    let left = g.S.Source.bytes_left c.loop-n.source in
    let after = g.S.Source.bytes_left c.read.new.self in
    let part = c.front.result.now in
    let n = c.in-Ok-read.n in
    let same : c.deref.result.now ≡ c.read.new.buf = grind (arith, common_steps) in
    let taken : part ≡ take n c.read.new.buf = c.front.ensures.value ∙ ap (λ (l : List ℕ). take n l) same in
    let here = g.W.Site.outside c.loop-n.site in
    let now = told_at (g.W.Site.outside c.args.site.now) here _ w i.builds tells in (
      i.read ++ part,
      read_of (i.read ++ part) bytes behind source after
          (subst (λ (l : List ℕ). Took (i.read ++ l) source after) (sym taken)
          (took_more i.read c.deref_mut.result.now c.read.new.buf n source left after i.took
          c.in-Ok-read.ensures.told))
          was is,
      inl (at_some here now.0 _ now.1 c.in-Err.ensures.few start opening i.read c.args.steps.now (now.2 opening o)),
    )

pub returns-in-Err-clause-reads : goal.returns-in-Err-clause-reads
returns-in-Err-clause-reads g c =
    reads_calm (g.S.Source.faults c.args.source.now) (g.S.Source.faults c.read.new.self) c.close.result
    (c.in-Ok-read.ensures.counts.stays refl ∙ c.loop-n.invariant.calm_reads)
    (not_read_fault c.close.result c.close.ensures.named)

pub returns-in-Err-clause-calls : goal.returns-in-Err-clause-calls
returns-in-Err-clause-calls g c =
    c.close.ensures.calls (g.W.Site.faults c.args.site.now)
    (subst (λ (n : ℕ). CountsStops {T = Unit {0}} n (g.W.Site.faults c.take_part.new.site) (Err c.in-Err.stop))
    c.loop-n.invariant.calm_calls c.in-Err.ensures.calls)
