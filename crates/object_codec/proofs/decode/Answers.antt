-- Only the events that were read have the spelling, and they alone where nothing stands behind them.
use Rattle.std.proofs.Common.{[], length, ap, arith}
use Rattle.object_codec.specs.OneSpelling.{events_one, whole_begins}
use Rattle.object_codec.proofs.decode.Goals as goal

pub returns-in-Ok-default-empty-clause-only : goal.returns-in-Ok-default-empty-clause-only
returns-in-Ok-default-empty-clause-only c = λ events fits e.
    (events_one c.in-Ok-default-empty.events.items events c.args.bytes.now c.in-Ok-default-empty.field-0-1.now []
    c.in-Ok-default-empty.ensures.found (whole_begins events c.args.bytes.now fits e)).0

pub returns-in-Ok-clause-none : goal.returns-in-Ok-clause-none
returns-in-Ok-clause-none c = λ events fits e.
    let same = (events_one c.in-Ok.field-0.0.items events c.args.bytes.now c.in-Ok.field-0.1.now []
    c.in-Ok.ensures.found (whole_begins events c.args.bytes.now fits e)).1 in
    omega (arith, ap length same, c.in-Ok.len_at_least)

pub returns-in-Err-Malformed-clause-none : goal.returns-in-Err-Malformed-clause-none
returns-in-Err-Malformed-clause-none c = λ events fits e.
    (rw c.in-Err-Malformed.field-0-is at c.in-Err-Malformed.ensures.malformed) events []
    (whole_begins events c.args.bytes.now fits e)
