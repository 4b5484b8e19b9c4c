use Rattle.std.proofs.lemmas.Result.{err_from_is_err_and}
use Rattle.road_base.specs.declared.objects.Node.{Node}
use Rattle.spelled_bytes.specs.Spelling.{pair_bytes, PairFits}
use Rattle.object_codec.specs.Spelling.{node_bytes, tags_bytes, place_bytes, NodeFits, TagsFit, PlaceFits}
use Rattle.spelled_bytes.proofs.Fronts.{malformed_weaker, form_missing}
use Rattle.object_codec.proofs.objects.NodeSpellEventFormat.read.Goals as goal

pub returns-in_err-tags-clause-malformed : goal.returns-in_err-tags-clause-malformed
unfolding node_bytes NodeFits
returns-in_err-tags-clause-malformed c =
    let p = err_from_is_err_and c.from_residual.result c.from_residual.ensures.1 in
    rw (p.1, p.2) (malformed_weaker c.in_err-tags.field-0.0
    (form_missing (λ (x : Node). (x.tags, x.location)) (pair_bytes tags_bytes place_bytes)
    (PairFits TagsFit PlaceFits) c.args.bytes.now) c.in_err-tags.ensures.malformed)
