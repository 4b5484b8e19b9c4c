use Rattle.std.proofs.Common.{◌∙◌, ap}
use Rattle.std.specs.FinMap.{remove}
use Rattle.pinned_readers.proofs.KeyedMaps.{removed}
use Rattle.pinned_readers.proofs.NumberKeys.{reader_keys}
use Rattle.pinned_readers.proofs.pins.PinTable.remove.Goals as goal

pub returns : goal.returns
returns c =
    removed reader_keys (λ s. s.0) c.self.inside.by_reader c.remove.new.self c.args.reader c.remove.ensures.updates
    ∙ ap (λ s. remove s c.args.reader) c.self.view_is
