use Rattle.std.proofs.Common.{arith, map, refl, sym, ap, ◌∙◌}
use Rattle.layered_maps.specs.Maps.{from_key}
use Rattle.layered_maps.specs.Walks.{run_pairs}
use Rattle.layered_maps.proofs.WalkSteps.{one_altered, one_rises}
use Rattle.layered_maps.proofs.changes.pass_below.Goals as goal

pub entries_from-requires : goal.entries_from-requires
entries_from-requires g c =
    one_rises g.K.Ord.cmp run_pairs (from_key g.K.Ord.cmp c.args.key) (map run_pairs c.args.runs.now) c.loop-at.runs
    c.loop-at.at c.index-runs-at.result c.loop-at.invariant c.requires
    (omega (arith, c.loop-at-test.true, c.type_inv.runs))

pub loop-at-preserved : goal.loop-at-preserved
loop-at-preserved g c =
    let R = g.K.Ord.cmp in
    let key = c.args.key in
    one_altered run_pairs (from_key R key) (map run_pairs c.args.runs.now) c.loop-at.runs _
    c.loop-at.at c.index-runs-at.result c.entries_from.result c.loop-at.invariant c.index-runs-at.is
    (c.entries_from.ensures ∙ ap (λ r. from_key R key (run_pairs r)) (sym c.index-runs-at.is)) refl
