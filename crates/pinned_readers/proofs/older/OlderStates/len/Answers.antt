use Rattle.std.proofs.Common.{◌∙◌, sym, ap}
use Rattle.std.specs.FinMap.{len}
use Rattle.pinned_readers.proofs.KeyedMaps.{len_numbered}
use Rattle.pinned_readers.proofs.NumberKeys.{sequence_keys}
use Rattle.pinned_readers.proofs.older.OlderStates.len.Goals as goal

pub returns-clause-count : goal.returns-clause-count
returns-clause-count g c =
    c.len.ensures.len ∙ sym (len_numbered sequence_keys (λ x. x) c.self.inside.by_number c.len.ensures.ordered)
    ∙ ap len c.self.view_is
