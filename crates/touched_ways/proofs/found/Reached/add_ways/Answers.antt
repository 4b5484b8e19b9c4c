use Rattle.std.proofs.Common.{refl, Contains}
use Rattle.std.proofs.lemmas.Result.{on_ok_weaker}
use Rattle.touched_ways.specs.declared.found.Reached.{Reached}
use Rattle.touched_ways.proofs.FoundKeys.{found_ways}
use Rattle.touched_ways.proofs.found.Reached.add_ways.Goals as goal

pub returns : goal.returns
returns c =
    let f = c.args.self.now in
    let g : Reached = record f { ways = c.add_all.new.self } in
    on_ok_weaker c.add_all.result
    (λ added. found_ways f g (Contains c.args.ways.now) added refl refl) c.add_all.ensures
