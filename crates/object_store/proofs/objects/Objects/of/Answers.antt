use Rattle.std.proofs.Common.{sym, subst}
use Rattle.std.specs.FinMap.{empty}
use Rattle.std.proofs.lemmas.Result.{IfOk-weaker}
use Rattle.road_base.specs.Applying.{IsApplied}
use Rattle.object_store.proofs.objects.Objects.of.Goals as goal

pub returns : goal.returns
returns c =
    IfOk-weaker c.of_base.result _ _ (λ o e. subst (λ m. IsApplied empty c.args.events.items m) (sym e)
    c.in_ok-of.ensures) c.of_base.ensures
