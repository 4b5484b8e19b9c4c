use Rattle.std.proofs.Common.{sym, ap, ◌∙◌, subst}
use Rattle.layered_maps.specs.Layers.{laid, put_all, values_of}
use Rattle.layered_maps.specs.Filters.{AreMarked}
use Rattle.layered_maps.proofs.MarkedPairs.{laid_marked}
use Rattle.layered_maps.proofs.layers.Layers.with.Goals as goal

pub invariant_of-result : goal.invariant_of-result
invariant_of-result g c =
    let R = g.K.Ord.cmp in
    let number = g.K.Slotted.number in
    let below = laid R (values_of c.self.inside.runs.items) in
    let words = c.in_ok-marks.marks in
    let before = c.in_ok-share.field-0 in (
      subst (λ l. AreMarked R number l words)
          (sym (c.in_ok-runs.ensures.laid
          ∙ ap (λ l. put_all R c.args.later (laid R (values_of l))) c.as_slice.ensures.value))
          (laid_marked R g.met.K.Ord.total number g.met.K.Slotted.tied c.args.later below before words
          c.in_ok-marks.ensures.own
          (subst (AreMarked R number below) (sym c.in_ok-share.ensures) c.self.invariant.0)
          c.in_ok-marks.ensures.others),
      c.in_ok-runs.ensures.few,
    )
