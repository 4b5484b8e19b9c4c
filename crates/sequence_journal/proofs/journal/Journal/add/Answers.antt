use Rattle.std.proofs.Common.{◌+◌, true, refl, arith}
use Rattle.road_io.proofs.ToldCalls.{told_weaker}
use Rattle.sequence_journal.specs.declared.journal.Journal.{Journal}
use Rattle.sequence_journal.proofs.AddedChange.{is_next_chunk, adding_done, adding_failed}
use Rattle.sequence_journal.proofs.journal.Journal.add.Goals as goal

pub returns-in-Ok-clause-told : goal.returns-in-Ok-clause-told
returns-in-Ok-clause-told g c = λ events spells.
    let old = c.args.self.now in
    let change = c.args.change.now in
    let n = is_next_chunk old change events c.requires.may spells in
    let new : Journal = record {
      file = old.file;
      generation = old.generation;
      profile = old.profile;
      gate = old.gate + c.len.result;
      kept = change.number;
      closed = old.closed;
    } in
    told_weaker _ _ _ _ c.in-Ok.ensures.told
    (λ w v o. adding_done old new change.number events change.chunk.items c.deref.result.now n
    c.deref.ensures.value w v c.in-Ok.field-0 tt refl refl refl refl (omega (arith, c.len.ensures)) o)

pub returns-in-Err-clause-told : goal.returns-in-Err-clause-told
returns-in-Err-clause-told g c = λ events spells.
    let old = c.args.self.now in
    let change = c.args.change.now in
    let n = is_next_chunk old change events c.requires.may spells in
    let new : Journal = record {
      file = old.file;
      generation = old.generation;
      profile = old.profile;
      gate = old.gate;
      kept = old.kept;
      closed = true;
    } in
    told_weaker _ _ _ _ c.in-Err.ensures.told
    (λ w v o. adding_failed old new change.number events change.chunk.items c.deref.result.now n
    c.deref.ensures.value w v c.in-Err.field-0 c.requires.may.2.not_closed o)
