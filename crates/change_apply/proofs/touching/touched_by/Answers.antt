use Rattle.std.proofs.Common.{sym, subst}
use Rattle.std.proofs.lemmas.Result.{IfOk-weaker}
use Rattle.road_base.specs.Objects.{Objects}
use Rattle.road_model.specs.Links.{AreChanged, AreTouched}
use Rattle.change_apply.proofs.PreparedKeys.{changed_of}
use Rattle.change_apply.proofs.touching.touched_by.Goals as goal

pub returns : goal.returns
returns c =
    let M = c.args.prepared.now.before in
    let N = c.args.prepared.now.after in
    let here = c.args.world.now in
    let next = c.of-next.result in
    let keys = c.keys.result.now in
    let changed = changed_of M N here next c.args.prepared.now.keys keys c.requires c.of-next.ensures
    c.keys.ensures.keys c.keys.ensures.differ in
    IfOk-weaker c.surroundings.result (λ ways. AreChanged here next keys → AreTouched here next ways) (AreTouched M N)
    (λ ways are. subst (λ (x : Objects). AreTouched x N ways) (sym c.requires)
    (subst (λ (x : Objects). AreTouched here x ways) c.of-next.ensures (are changed))) c.surroundings.ensures
