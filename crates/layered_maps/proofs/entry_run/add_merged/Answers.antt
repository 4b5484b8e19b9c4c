use Rattle.std.proofs.Common.{◌≡◌, ◌++◌, map}
use Rattle.std.proofs.lemmas.Result.{on_ok_weaker}
use Rattle.layered_maps.specs.Layers.{pair, put_all}
use Rattle.layered_maps.proofs.MergedPairs.{none_first, none_second, rests_added}
use Rattle.layered_maps.proofs.entry_run.add_merged.Goals.{then-loop-all-test+else-not-is_empty, else-loop-all-test}
use Rattle.layered_maps.proofs.entry_run.add_merged.Goals as goal

pub returns : goal.returns
returns g c =
    let R = g.K.Ord.cmp in
    let left = map pair c.loop-all.left.now in
    let right = map pair c.loop-all.right.now in
    let before = map pair c.loop-all.all.items in
    let merged = put_all R left right in
    let whole = map pair c.args.all.now.items ++ put_all R (map pair c.args.first.now) (map pair c.args.second.now) in
    let one = map pair c.add_shared.new.all.items in
    let both = map pair c.add_shared-2.new.all.items in
    let last : merged ≡ left ++ right
    = elim c.loop-all-test.branch [
      | then-loop-all-test+else-not-is_empty w ↦
          none_second R pair left c.loop-all.right.now c.loop-all.invariant.0 w.if-not-is_empty.ensures
      | else-loop-all-test w ↦ none_first R pair c.loop-all.left.now right w.loop-all-test.ensures
    ] in
    on_ok_weaker c.add_shared-2.result (rests_added before left right merged whole one both c.loop-all.invariant.2 last
    c.in_ok-add_shared.ensures) c.add_shared-2.ensures
