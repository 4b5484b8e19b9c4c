use Rattle.std.proofs.Common.{◌≡◌, ◌<◌, ◌∙◌, ◌++◌, length, take, [], arith, refl}
use Rattle.std.proofs.lemmas.Grind.{common_steps}
use Rattle.road_io.proofs.SourceParts.{took_nothing, took_more, took_still, took_all, rose_since}
use Rattle.bounded_input.proofs.InputEnds.{within_limit, whole_events, whole_refusal, stopped, ok_maps, err_maps}
use Rattle.bounded_input.proofs.input.read_events.Goals as goal

pub loop-n-init : goal.loop-n-init
loop-n-init g c = record {
  read = [];
  took = took_nothing (g.S.Source.bytes_left c.args.source.now);
  holds = c.new-input.ensures.holds;
  calm = refl;
  room = c.in-Ok.ensures.len;
}

-- ---- a read failed

pub returns-in_default-read-clause-err : goal.returns-in_default-read-clause-err
returns-in_default-read-clause-err g c =
    let i = c.loop-n.invariant in
    let held = g.S.Source.bytes_left c.args.source.now in
    let left = g.S.Source.bytes_left c.loop-n.source in
    let after = g.S.Source.bytes_left c.read.new.self in
    let failed = c.in_default-read in
    record {
      read = i.read;
      took = took_still i.read c.deref_mut.result.now c.read.new.buf failed.field-0 held left after
          i.took failed.ensures.told;
      cause = (
        rose_since _ _ _ (omega (arith, i.calm)) (failed.ensures.counts.cause refl),
        within_limit i.read c.loop-n.input i.holds.measures,
      );
    }

pub returns-in_default-read-clause-each_fault : goal.returns-in_default-read-clause-each_fault
returns-in_default-read-clause-each_fault g c = λ _. refl

-- ---- all was read

pub returns-then-n-eq0-clause-ok : goal.returns-then-n-eq0-clause-ok
returns-then-n-eq0-clause-ok g c =
    let i = c.loop-n.invariant in
    let held = g.S.Source.bytes_left c.args.source.now in
    let left = g.S.Source.bytes_left c.loop-n.source in
    let after = g.S.Source.bytes_left c.read.new.self in
    let room : 0 < length c.deref_mut.result.now = omega (arith, c.deref_mut.ensures.len, i.room) in
    let told = took_all i.read c.deref_mut.result.now c.read.new.buf c.in-Ok-read.n held left after room c.if-n-eq0.true
    i.took c.in-Ok-read.ensures.told in
    ok_maps c.finish.result c.finish.ensures.ok (λ events gives.
    whole_events c.args.mode c.loop-n.input held after 0 0 i.read i.holds told events.items
    (gives c.args.mode i.read i.holds))

pub returns-then-n-eq0-clause-err : goal.returns-then-n-eq0-clause-err
returns-then-n-eq0-clause-err g c =
    let i = c.loop-n.invariant in
    let held = g.S.Source.bytes_left c.args.source.now in
    let left = g.S.Source.bytes_left c.loop-n.source in
    let after = g.S.Source.bytes_left c.read.new.self in
    let room : 0 < length c.deref_mut.result.now = omega (arith, c.deref_mut.ensures.len, i.room) in
    let told = took_all i.read c.deref_mut.result.now c.read.new.buf c.in-Ok-read.n held left after room c.if-n-eq0.true
    i.took c.in-Ok-read.ensures.told in
    err_maps c.finish.result c.finish.ensures.err (λ e refuses.
    whole_refusal c.args.mode c.loop-n.input held after _ _ i.read i.holds told e
    (refuses c.args.mode i.read i.holds))

pub returns-then-n-eq0-clause-each_fault : goal.returns-then-n-eq0-clause-each_fault
returns-then-n-eq0-clause-each_fault g c = λ rises.
    absurd (omega (arith, rises, c.loop-n.invariant.calm, c.in-Ok-read.ensures.counts.stays refl))

-- ---- a part is refused

pub returns-in-Err-clause-err : goal.returns-in-Err-clause-err
returns-in-Err-clause-err g c =
    let i = c.loop-n.invariant in
    let held = g.S.Source.bytes_left c.args.source.now in
    let left = g.S.Source.bytes_left c.loop-n.source in
    let after = g.S.Source.bytes_left c.read.new.self in
    let read = i.read ++ take c.in-Ok-read.n c.read.new.buf in
    let took = took_more i.read c.deref_mut.result.now c.read.new.buf c.in-Ok-read.n held left after
    i.took c.in-Ok-read.ensures.told in
    let same : c.deref.result.now ≡ c.read.new.buf = grind (arith, common_steps) in
    stopped c.args.mode read held after _ _ took c.in-Err.error
    (rw (c.front.ensures.value, same) at (c.in-Err.ensures.err c.args.mode i.read i.holds))

pub returns-in-Err-clause-each_fault : goal.returns-in-Err-clause-each_fault
returns-in-Err-clause-each_fault g c = λ rises.
    absurd (omega (arith, rises, c.loop-n.invariant.calm, c.in-Ok-read.ensures.counts.stays refl))

-- ---- a part is taken

pub loop-n-preserved : goal.loop-n-preserved
loop-n-preserved g c =
    let i = c.loop-n.invariant in
    let held = g.S.Source.bytes_left c.args.source.now in
    let left = g.S.Source.bytes_left c.loop-n.source in
    let after = g.S.Source.bytes_left c.read.new.self in
    let same : c.deref.result.now ≡ c.read.new.buf = grind (arith, common_steps) in
    record {
      read = i.read ++ take c.in-Ok-read.n c.read.new.buf;
      took = took_more i.read c.deref_mut.result.now c.read.new.buf c.in-Ok-read.n held left after
          i.took c.in-Ok-read.ensures.told;
      holds = rw (c.front.ensures.value, same) at (c.in-Ok-take.ensures.ok c.args.mode i.read i.holds);
      calm = c.in-Ok-read.ensures.counts.stays refl ∙ i.calm;
      room = i.room;
    }

pub take-requires : goal.take-requires
take-requires g c =
    let room = c.loop-n.invariant.room in
    omega (arith, c.front.ensures.len, c.in-Ok-read.ensures.fits, c.deref_mut.ensures.len, room)
