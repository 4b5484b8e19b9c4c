use Rattle.std.proofs.Common.{map, sym, subst}
use Rattle.layered_maps.specs.Layers.{pair, Rise}
use Rattle.layered_maps.proofs.MergedPairs.{merged_rises}
use Rattle.layered_maps.proofs.entry_run.EntryRun.merged.Goals as goal

pub invariant_of-result : goal.invariant_of-result
invariant_of-result g c =
    let R = g.K.Ord.cmp in
    let first = map pair c.as_slice.result.now in
    let second = map pair c.as_slice-2.result.now in
    let rise : Rise R second
    = subst (λ es. Rise R (map pair es)) (sym c.as_slice-2.ensures.value) c.below.invariant in
    merged_rises R g.met.K.Ord.total pair c.in_ok-entries.entries.items first second
    (map pair c.add_merged.new.all.items) c.in_ok-entries.ensures.items rise c.in_ok-add_merged.ensures
