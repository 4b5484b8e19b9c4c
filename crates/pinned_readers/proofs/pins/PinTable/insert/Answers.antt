use Rattle.std.proofs.Common.{◌∙◌, ap}
use Rattle.std.specs.FinMap.{insert}
use Rattle.pinned_readers.proofs.KeyedMaps.{inserted}
use Rattle.pinned_readers.proofs.NumberKeys.{reader_keys}
use Rattle.pinned_readers.proofs.pins.PinTable.insert.Goals as goal

pub returns-clause-ok : goal.returns-clause-ok
returns-clause-ok c =
    inserted reader_keys (λ s. s.0) c.self.inside.by_reader c.insert.new.self c.args.reader c.args.number
    c.in_ok-insert.ensures.updates
    ∙ ap (λ s. insert s c.args.reader c.args.number.0) c.self.view_is
