use Rattle.std.proofs.Common.{◌≡◌, ◌<◌, ◌∙◌, ◌++◌, ℕ, List, [], length, take, ap, sym, subst, arith, refl}
use Rattle.std.proofs.Common.{length-append}
use Rattle.std.proofs.lemmas.Grind.{common_steps}
use Rattle.road_io.specs.Parts.{Took}
use Rattle.road_io.proofs.SourceParts.{took_nothing, took_more, took_still, took_all, rose_since}
use Rattle.bounded_input.proofs.InputEnds.{took_whole, ended_whole}
use Rattle.bounded_input.proofs.gathering.gather.Goals as goal

-- ---- before the first read

pub returns-in_default-clause-err : goal.returns-in_default-clause-err
returns-in_default-clause-err g c =
    record { read = []; took = took_nothing (g.S.Source.bytes_left c.args.source.now); cause = tt }

pub returns-in_default-clause-each_fault : goal.returns-in_default-clause-each_fault
returns-in_default-clause-each_fault g c = λ rises. absurd (omega (arith, rises))

pub loop-n-init : goal.loop-n-init
loop-n-init g c =
    let held = g.S.Source.bytes_left c.args.source.now in
    let none = c.new-bytes.ensures.items in
    record {
      took = subst (λ (l : List ℕ). Took l held held) (sym none) (took_nothing held);
      few = omega (arith, ap (λ (l : List ℕ). length l) none);
      calm = refl;
      room = c.in-Ok.ensures.len;
    }

-- ---- a read failed

pub returns-in_default-read-clause-err : goal.returns-in_default-read-clause-err
returns-in_default-read-clause-err g c =
    let i = c.loop-n.invariant in
    let held = g.S.Source.bytes_left c.args.source.now in
    let left = g.S.Source.bytes_left c.loop-n.source in
    let after = g.S.Source.bytes_left c.read.new.self in
    let failed = c.in_default-read in
    record {
      read = c.loop-n.bytes.items;
      took = took_still c.loop-n.bytes.items c.deref_mut.result.now c.read.new.buf failed.field-0 held left after
          i.took failed.ensures.told;
      cause = (
        rose_since _ _ _ (omega (arith, i.calm)) (failed.ensures.counts.cause refl),
        λ more. omega (arith, i.few, more),
      );
    }

pub returns-in_default-read-clause-each_fault : goal.returns-in_default-read-clause-each_fault
returns-in_default-read-clause-each_fault g c = λ _. refl

-- ---- all was read

pub returns-then-n-eq0-clause-ok : goal.returns-then-n-eq0-clause-ok
returns-then-n-eq0-clause-ok g c =
    let i = c.loop-n.invariant in
    let held = g.S.Source.bytes_left c.args.source.now in
    let left = g.S.Source.bytes_left c.loop-n.source in
    let after = g.S.Source.bytes_left c.read.new.self in
    let bytes = c.loop-n.bytes.items in
    let room : 0 < length c.deref_mut.result.now = omega (arith, c.deref_mut.ensures.len, i.room) in
    let told = took_all bytes c.deref_mut.result.now c.read.new.buf c.in-Ok-read.n held left after room c.if-n-eq0.true
    i.took c.in-Ok-read.ensures.told in
    record {
      took = took_whole bytes held after told;
      ended = ended_whole bytes held after told;
      within = λ more. omega (arith, i.few, more);
    }

pub returns-then-n-eq0-clause-each_fault : goal.returns-then-n-eq0-clause-each_fault
returns-then-n-eq0-clause-each_fault g c = λ rises.
    absurd (omega (arith, rises, c.loop-n.invariant.calm, c.in-Ok-read.ensures.counts.stays refl))

-- ---- a part was read

pub front-part-requires : goal.front-part-requires
front-part-requires g c = omega (arith, c.in-Ok-read.ensures.fits, c.deref.ensures.len, c.deref_mut.ensures.len)

pub overflow_add-len : goal.overflow_add-len
overflow_add-len g c =
    let i = c.loop-n.invariant in
    omega (
      arith,
      i.few,
      i.room,
      c.len.ensures,
      c.front-part.ensures.len,
      c.in-Ok-read.ensures.fits,
      c.deref_mut.ensures.len,
    )

pub returns-then-len-part-gt-MOST_BYTES-clause-err : goal.returns-then-len-part-gt-MOST_BYTES-clause-err
returns-then-len-part-gt-MOST_BYTES-clause-err g c =
    let i = c.loop-n.invariant in
    let bytes = c.loop-n.bytes.items in
    let part = c.front-part.result.now in
    let held = g.S.Source.bytes_left c.args.source.now in
    let left = g.S.Source.bytes_left c.loop-n.source in
    let after = g.S.Source.bytes_left c.read.new.self in
    let same : c.deref.result.now ≡ c.read.new.buf = grind (arith, common_steps) in
    let value : part ≡ take c.in-Ok-read.n c.read.new.buf =
    c.front-part.ensures.value ∙ ap (λ (l : List ℕ). take c.in-Ok-read.n l) same in
    record {
      read = bytes ++ part;
      took = subst (λ (l : List ℕ). Took (bytes ++ l) held after) (sym value)
          (took_more bytes c.deref_mut.result.now c.read.new.buf c.in-Ok-read.n held left after
          i.took c.in-Ok-read.ensures.told);
      cause = record {
        front = bytes;
        part = part;
        is = refl;
        small = omega (arith, i.room, c.front-part.ensures.len, c.in-Ok-read.ensures.fits, c.deref_mut.ensures.len);
        within = λ more. omega (arith, i.few, more);
        passes = omega (arith, length-append bytes part, c.len.ensures, c.if-len-part-gt-MOST_BYTES.true);
      };
    }

pub returns-then-len-part-gt-MOST_BYTES-clause-each_fault : goal.returns-then-len-part-gt-MOST_BYTES-clause-each_fault
returns-then-len-part-gt-MOST_BYTES-clause-each_fault g c = λ rises.
    absurd (omega (arith, rises, c.loop-n.invariant.calm, c.in-Ok-read.ensures.counts.stays refl))

pub returns-in-Err-clause-err : goal.returns-in-Err-clause-err
returns-in-Err-clause-err g c =
    let held = g.S.Source.bytes_left c.args.source.now in
    let left = g.S.Source.bytes_left c.loop-n.source in
    let after = g.S.Source.bytes_left c.read.new.self in
    record {
      read = c.loop-n.bytes.items ++ take c.in-Ok-read.n c.read.new.buf;
      took = took_more c.loop-n.bytes.items c.deref_mut.result.now c.read.new.buf c.in-Ok-read.n held left after
          c.loop-n.invariant.took c.in-Ok-read.ensures.told;
      cause = tt;
    }

pub returns-in-Err-clause-each_fault : goal.returns-in-Err-clause-each_fault
returns-in-Err-clause-each_fault g c = λ rises.
    absurd (omega (arith, rises, c.loop-n.invariant.calm, c.in-Ok-read.ensures.counts.stays refl))

pub loop-n-preserved : goal.loop-n-preserved
loop-n-preserved g c =
    let i = c.loop-n.invariant in
    let bytes = c.loop-n.bytes.items in
    let part = c.front-part.result.now in
    let held = g.S.Source.bytes_left c.args.source.now in
    let left = g.S.Source.bytes_left c.loop-n.source in
    let after = g.S.Source.bytes_left c.read.new.self in
    let same : c.deref.result.now ≡ c.read.new.buf = grind (arith, common_steps) in
    let value : part ≡ take c.in-Ok-read.n c.read.new.buf =
    c.front-part.ensures.value ∙ ap (λ (l : List ℕ). take c.in-Ok-read.n l) same in
    let items : c.extend_from_slice.new.self.items ≡ bytes ++ part = c.in-Ok-extend_from_slice.ensures.items in
    record {
      took = subst (λ (l : List ℕ). Took l held after) (sym items)
          (subst (λ (l : List ℕ). Took (bytes ++ l) held after) (sym value)
          (took_more bytes c.deref_mut.result.now c.read.new.buf c.in-Ok-read.n held left after
          i.took c.in-Ok-read.ensures.told));
      few = omega (
        arith,
        ap (λ (l : List ℕ). length l) items,
        length-append bytes part,
        c.len.ensures,
        c.if-len-part-gt-MOST_BYTES.false,
      );
      calm = c.in-Ok-read.ensures.counts.stays refl ∙ i.calm;
      room = i.room;
    }

pub loop-n-smaller : goal.loop-n-smaller
loop-n-smaller g c =
    let bytes = c.loop-n.bytes.items in
    let part = c.front-part.result.now in
    let items : c.extend_from_slice.new.self.items ≡ bytes ++ part = c.in-Ok-extend_from_slice.ensures.items in
    omega (
      arith,
      ap (λ (l : List ℕ). length l) items,
      length-append bytes part,
      c.front-part.ensures.len,
      c.if-n-eq0.false,
      c.loop-n.invariant.few,
    )
