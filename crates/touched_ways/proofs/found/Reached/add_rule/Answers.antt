use Rattle.std.proofs.Common.{◌≡◌, refl}
use Rattle.std.proofs.lemmas.Result.{on_ok_weaker}
use Rattle.road_base.specs.declared.ids.Key.TheVariants.{Relation as RelationKey}
use Rattle.touched_ways.specs.declared.found.Reached.{Reached}
use Rattle.touched_ways.proofs.FoundKeys.{found_rules, finds_one}
use Rattle.touched_ways.proofs.found.Reached.add_rule.Goals as goal

pub returns : goal.returns
returns c =
    let f = c.args.self.now in
    let g : Reached = record f { rules = c.add.new.list } in
    on_ok_weaker c.add.result
    (λ added. finds_one RelationKey c.args.rule f g (found_rules f g (λ x. x ≡ c.args.rule) added refl refl))
    c.add.ensures
