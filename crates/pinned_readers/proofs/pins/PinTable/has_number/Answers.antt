use Rattle.std.proofs.Common.{◌∙◌, subst, sym}
use Rattle.pinned_readers.specs.PinnedRuns.{Pins, IsPinnedNumber}
use Rattle.pinned_readers.proofs.NumbersAmong.{number_among, among_number}
use Rattle.pinned_readers.proofs.pins.PinTable.has_number.Goals as goal

pub returns : goal.returns
returns c =
    let m = c.self.inside.by_reader in
    let n = c.args.number.0 in (
      λ yes. subst (λ (pins : Pins). IsPinnedNumber pins n) c.self.view_is
          (number_among m n c.has_value.ensures.ordered (sym c.has_value.ensures.any ∙ yes)),
      λ pinned. c.has_value.ensures.any
          ∙ among_number m n (subst (λ (pins : Pins). IsPinnedNumber pins n) (sym c.self.view_is) pinned),
    )
