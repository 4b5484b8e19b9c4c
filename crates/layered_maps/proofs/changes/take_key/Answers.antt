use Rattle.std.proofs.Common.{map, refl, sym, ap, ◌∙◌}
use Rattle.layered_maps.specs.Walks.{behind_key, run_pairs}
use Rattle.layered_maps.proofs.WalkSteps.{one_altered}
use Rattle.layered_maps.proofs.changes.take_key.Goals as goal

pub loop-at-preserved : goal.loop-at-preserved
loop-at-preserved g c =
    let R = g.K.Ord.cmp in
    let key = c.args.key in
    one_altered run_pairs (behind_key R key) (map run_pairs c.args.runs.now) c.loop-at.runs _
    c.loop-at.at c.index-runs-at.result c.behind.result c.loop-at.invariant c.index-runs-at.is
    (c.behind.ensures ∙ ap (λ r. behind_key R key (run_pairs r)) (sym c.index-runs-at.is)) refl
