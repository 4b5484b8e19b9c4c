use Rattle.std.proofs.Common.{◌∙◌, ap, take, arith}
use Rattle.std.proofs.lemmas.List.Sorted.{sum_by-IsPermutation}
use Rattle.cell_plan.specs.Sums.{tallied, weight}
use Rattle.cell_plan.proofs.MergedTallies.{after_slice}
use Rattle.cell_plan.proofs.merging.put_together.Goals as goal

pub returns : goal.returns
returns c = λ wanted.
    let sorted = c.sort_unstable_by_key.new.self in
    let merged = c.merge_all-kept.new.tallies in
    let whole = after_slice sorted.len merged sorted.items
    (omega (arith, sorted.ok.0, c.merge_all-kept.auto.tallies, c.as_mut_slice.ensures.len)) in
    ap (tallied wanted) (c.truncate.ensures.items ∙ ap (take c.merge_all-kept.result) whole)
    ∙ (c.merge_all-kept.ensures.sum wanted ∙ (ap (tallied wanted) c.as_mut_slice.ensures.value
    ∙ sum_by-IsPermutation (weight wanted) c.args.tallies.now.items sorted.items
    c.sort_unstable_by_key.ensures.permutation))
