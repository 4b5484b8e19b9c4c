use Rattle.std.proofs.Common.{map, sym, ap, ◌∙◌}
use Rattle.std.proofs.lemmas.Result.{IfOk-weaker}
use Rattle.object_store.specs.Listed.{pair_of}
use Rattle.object_store.proofs.objects.Objects.events.Goals as goal

pub returns : goal.returns
returns c =
    IfOk-weaker c.walked.result _ _ (λ v e. ap (map pair_of) e ∙ sym c.walk.ensures.entries) c.walked.ensures
