use Rattle.std.proofs.Common.{◌≡◌, ◌<◌, ◌∙◌, ◌++◌, length, take, [], arith, refl}
use Rattle.std.proofs.lemmas.Grind.{common_steps}
use Rattle.road_io.proofs.SourceParts.{took_nothing, took_more, took_still, took_all, rose_since}
use Rattle.bounded_input.proofs.InputEnds.{took_whole, ended_whole}
use Rattle.bounded_input.proofs.StreamEnds.{on_ok, on_err, within_stream, takes_none, takes_both, stream_stopped}
use Rattle.bounded_input.proofs.StreamEnds.{stream_refused}
use Rattle.bounded_input.proofs.stream.stream_events.Goals as goal

pub loop-n-init : goal.loop-n-init
loop-n-init g c = record {
  read = [];
  took = took_nothing (g.S.Source.bytes_left c.args.source.now);
  events = [];
  holds = c.new-stream.ensures.open;
  taken = takes_none (g.T.TakesEvents.has_taken c.args.taker.now);
  calm = refl;
  room = c.in-Ok.ensures.len;
}

-- ---- a read failed

pub returns-in_default-read-clause-err : goal.returns-in_default-read-clause-err
returns-in_default-read-clause-err g c =
    let i = c.loop-n.invariant in
    let held = g.S.Source.bytes_left c.args.source.now in
    let left = g.S.Source.bytes_left c.loop-n.source in
    let after = g.S.Source.bytes_left c.read.new.self in
    let failed = c.in_default-read in
    record {
      read = i.read;
      took = took_still i.read c.deref_mut.result.now c.read.new.buf failed.field-0 held left after
          i.took failed.ensures.told;
      cause = (
        rose_since (g.S.Source.faults c.args.source.now) (g.S.Source.faults c.loop-n.source)
            (g.S.Source.faults c.read.new.self) (omega (arith, i.calm)) (failed.ensures.counts.cause refl),
        within_stream i.read c.loop-n.stream.measure c.loop-n.stream.limit i.holds.measures,
      );
    }

pub returns-in_default-read-clause-each_fault : goal.returns-in_default-read-clause-each_fault
returns-in_default-read-clause-each_fault g c = λ _. refl

-- ---- all was read

pub returns-then-n-eq0-clause-ok : goal.returns-then-n-eq0-clause-ok
returns-then-n-eq0-clause-ok g c =
    let i = c.loop-n.invariant in
    let held = g.S.Source.bytes_left c.args.source.now in
    let left = g.S.Source.bytes_left c.loop-n.source in
    let after = g.S.Source.bytes_left c.read.new.self in
    let room : 0 < length c.deref_mut.result.now = omega (arith, c.deref_mut.ensures.len, i.room) in
    let told = took_all i.read c.deref_mut.result.now c.read.new.buf c.in-Ok-read.n held left after room c.if-n-eq0.true
    i.took c.in-Ok-read.ensures.told in
    on_ok c.finish.result c.finish.ensures.ok (λ (more, gives, taken). record {
      bytes = i.read;
      took = took_whole i.read held after told;
      ended = ended_whole i.read held after told;
      within = within_stream i.read c.loop-n.stream.measure c.loop-n.stream.limit i.holds.measures;
      events = i.events ++ more;
      gives = gives c.args.mode i.read i.events i.holds;
      taken = takes_both (g.T.TakesEvents.has_taken c.args.taker.now) (g.T.TakesEvents.has_taken c.loop-n.taker)
          (g.T.TakesEvents.has_taken c.finish.new.taker) i.events more i.taken taken;
    })

pub returns-then-n-eq0-clause-err : goal.returns-then-n-eq0-clause-err
returns-then-n-eq0-clause-err g c =
    let i = c.loop-n.invariant in
    let held = g.S.Source.bytes_left c.args.source.now in
    let left = g.S.Source.bytes_left c.loop-n.source in
    let after = g.S.Source.bytes_left c.read.new.self in
    let room : 0 < length c.deref_mut.result.now = omega (arith, c.deref_mut.ensures.len, i.room) in
    let told = took_all i.read c.deref_mut.result.now c.read.new.buf c.in-Ok-read.n held left after room c.if-n-eq0.true
    i.took c.in-Ok-read.ensures.told in
    on_err c.finish.result c.finish.ensures.err (λ e refuses.
    stream_refused c.args.mode i.read held after _ _ told
    (within_stream i.read c.loop-n.stream.measure c.loop-n.stream.limit i.holds.measures) e
    (refuses c.args.mode i.read i.events i.holds))

pub returns-then-n-eq0-clause-each_fault : goal.returns-then-n-eq0-clause-each_fault
returns-then-n-eq0-clause-each_fault g c = λ rises.
    absurd (omega (arith, rises, c.loop-n.invariant.calm, c.in-Ok-read.ensures.counts.stays refl))

-- ---- a part is refused

pub returns-in-Err-clause-err : goal.returns-in-Err-clause-err
returns-in-Err-clause-err g c =
    let i = c.loop-n.invariant in
    let held = g.S.Source.bytes_left c.args.source.now in
    let left = g.S.Source.bytes_left c.loop-n.source in
    let after = g.S.Source.bytes_left c.read.new.self in
    let read = i.read ++ take c.in-Ok-read.n c.read.new.buf in
    let took = took_more i.read c.deref_mut.result.now c.read.new.buf c.in-Ok-read.n held left after
    i.took c.in-Ok-read.ensures.told in
    let same : c.deref.result.now ≡ c.read.new.buf = grind (arith, common_steps) in
    stream_stopped c.args.mode read held after _ _ took c.in-Err.error
    (rw (c.front.ensures.value, same) at (c.in-Err.ensures.err c.args.mode i.read i.events i.holds))

pub returns-in-Err-clause-each_fault : goal.returns-in-Err-clause-each_fault
returns-in-Err-clause-each_fault g c = λ rises.
    absurd (omega (arith, rises, c.loop-n.invariant.calm, c.in-Ok-read.ensures.counts.stays refl))

-- ---- a part is taken

pub loop-n-preserved : goal.loop-n-preserved
loop-n-preserved g c =
    let i = c.loop-n.invariant in
    let held = g.S.Source.bytes_left c.args.source.now in
    let left = g.S.Source.bytes_left c.loop-n.source in
    let after = g.S.Source.bytes_left c.read.new.self in
    let same : c.deref.result.now ≡ c.read.new.buf = grind (arith, common_steps) in
    let more = c.in-Ok-take.ensures.ok in
    record {
      read = i.read ++ take c.in-Ok-read.n c.read.new.buf;
      took = took_more i.read c.deref_mut.result.now c.read.new.buf c.in-Ok-read.n held left after
          i.took c.in-Ok-read.ensures.told;
      events = i.events ++ more.0;
      holds = rw (c.front.ensures.value, same) at (more.1 c.args.mode i.read i.events i.holds);
      taken = takes_both (g.T.TakesEvents.has_taken c.args.taker.now) (g.T.TakesEvents.has_taken c.loop-n.taker)
          (g.T.TakesEvents.has_taken c.take.new.taker) i.events more.0 i.taken more.2;
      calm = c.in-Ok-read.ensures.counts.stays refl ∙ i.calm;
      room = i.room;
    }

pub take-requires : goal.take-requires
take-requires g c =
    let room = c.loop-n.invariant.room in
    omega (arith, c.front.ensures.len, c.in-Ok-read.ensures.fits, c.deref_mut.ensures.len, room)
