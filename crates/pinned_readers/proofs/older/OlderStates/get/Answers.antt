use Rattle.std.proofs.Common.{◌∙◌, sym, ap}
use Rattle.std.specs.FinMap.{get}
use Rattle.pinned_readers.proofs.KeyedMaps.{get_numbered}
use Rattle.pinned_readers.proofs.NumberKeys.{sequence_keys, same_option}
use Rattle.pinned_readers.proofs.older.OlderStates.get.Goals as goal

pub returns : goal.returns
returns g c =
    c.get.ensures.value ∙ sym (same_option _)
    ∙ sym (get_numbered sequence_keys (λ x. x) c.args.number c.self.inside.by_number.entries)
    ∙ ap (λ s. get s c.args.number.0) c.self.view_is
