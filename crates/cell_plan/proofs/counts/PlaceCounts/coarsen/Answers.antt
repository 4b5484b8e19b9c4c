use Rattle.std.proofs.Common.{◌∙◌, ◌/◌, ap, sym, arith}
use Rattle.cell_plan.specs.Sums.{tallied, lying}
use Rattle.cell_plan.proofs.MergedTallies.{after_slice}
use Rattle.cell_plan.proofs.CountedMore.{lying_coarser}
use Rattle.cell_plan.proofs.counts.PlaceCounts.coarsen.Goals as goal

pub returns-clause-counted : goal.returns-clause-counted
returns-clause-counted c = λ places had. record {
  each = λ wanted.
      let was = c.args.self.now.tallies in
      let side = c.args.self.now.grid.side in
      let halved = c.halve.new.tallies in
      let whole = after_slice was.len halved was.items
      (omega (arith, was.ok.0, c.halve.auto.tallies, c.as_mut_slice.ensures.len)) in
      let put = c.put_together.ensures wanted in
      put ∙ (ap (tallied wanted) whole ∙ (c.halve.ensures wanted
      ∙ (ap (tallied (λ column row. wanted (column / 2) (row / 2))) c.as_mut_slice.ensures.value
      ∙ (had.each (λ column row. wanted (column / 2) (row / 2)) ∙ (lying_coarser wanted side places
      ∙ ap (λ s. lying wanted s places) (sym c.coarser-self.ensures))))));
}
