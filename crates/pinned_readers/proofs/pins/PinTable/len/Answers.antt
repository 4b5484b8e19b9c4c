use Rattle.std.proofs.Common.{◌∙◌, sym, ap}
use Rattle.std.specs.FinMap.{len}
use Rattle.pinned_readers.proofs.KeyedMaps.{len_numbered}
use Rattle.pinned_readers.proofs.NumberKeys.{reader_keys}
use Rattle.pinned_readers.proofs.pins.PinTable.len.Goals as goal

pub returns : goal.returns
returns c =
    c.len.ensures.len ∙ sym (len_numbered reader_keys (λ s. s.0) c.self.inside.by_reader c.len.ensures.ordered)
    ∙ ap len c.self.view_is
