use Rattle.std.proofs.Common.{◌∙◌, ap}
use Rattle.std.specs.FinMap.{remove}
use Rattle.pinned_readers.proofs.KeyedMaps.{removed}
use Rattle.pinned_readers.proofs.NumberKeys.{sequence_keys}
use Rattle.pinned_readers.proofs.older.OlderStates.remove.Goals as goal

pub returns : goal.returns
returns g c =
    removed sequence_keys (λ x. x) c.self.inside.by_number c.remove.new.self c.args.number c.remove.ensures.updates
    ∙ ap (λ s. remove s c.args.number.0) c.self.view_is
