use Rattle.std.proofs.Common.{◌≡◌, refl}
use Rattle.std.proofs.lemmas.Result.{on_ok_weaker}
use Rattle.road_base.specs.declared.ids.Key.TheVariants.{Way as WayKey}
use Rattle.touched_ways.specs.declared.found.Reached.{Reached}
use Rattle.touched_ways.proofs.FoundKeys.{found_ways, finds_one}
use Rattle.touched_ways.proofs.found.Reached.add_way.Goals as goal

pub returns : goal.returns
returns c =
    let f = c.args.self.now in
    let g : Reached = record f { ways = c.add.new.self } in
    on_ok_weaker c.add.result
    (λ added. finds_one WayKey c.args.way f g (found_ways f g (λ x. x ≡ c.args.way) added refl refl))
    c.add.ensures
