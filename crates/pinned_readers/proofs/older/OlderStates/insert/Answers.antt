use Rattle.std.proofs.Common.{◌∙◌, ap}
use Rattle.std.specs.FinMap.{insert}
use Rattle.pinned_readers.proofs.KeyedMaps.{inserted}
use Rattle.pinned_readers.proofs.NumberKeys.{sequence_keys}
use Rattle.pinned_readers.proofs.older.OlderStates.insert.Goals as goal

pub returns-in-Ok-clause-ok : goal.returns-in-Ok-clause-ok
returns-in-Ok-clause-ok g c =
    inserted sequence_keys (λ x. x) c.self.inside.by_number c.insert.new.self c.args.number c.args.follower
    c.in-Ok.ensures.updates
    ∙ ap (λ s. insert s c.args.number.0 c.args.follower) c.self.view_is
