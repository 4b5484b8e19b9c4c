use Rattle.std.proofs.Common.{◌∙◌, sym, ap}
use Rattle.std.specs.Option.{option_map}
use Rattle.std.specs.FinMap.{get}
use Rattle.pinned_readers.proofs.KeyedMaps.{get_numbered}
use Rattle.pinned_readers.proofs.NumberKeys.{reader_keys}
use Rattle.pinned_readers.proofs.pins.PinTable.get.Goals as goal

pub returns : goal.returns
returns c =
    ap (option_map (λ n. n.0)) (c.copied.ensures ∙ c.get.ensures.value)
    ∙ sym (get_numbered reader_keys (λ s. s.0) c.args.reader c.self.inside.by_reader.entries)
    ∙ ap (λ s. get s c.args.reader) c.self.view_is
