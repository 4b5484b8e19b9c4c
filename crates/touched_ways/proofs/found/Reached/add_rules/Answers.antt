use Rattle.std.proofs.Common.{refl, Contains}
use Rattle.std.proofs.lemmas.Result.{on_ok_weaker}
use Rattle.touched_ways.specs.declared.found.Reached.{Reached}
use Rattle.touched_ways.proofs.FoundKeys.{found_rules}
use Rattle.touched_ways.proofs.found.Reached.add_rules.Goals as goal

pub returns : goal.returns
returns c =
    let f = c.args.self.now in
    let g : Reached = record f { rules = c.add_each.new.list } in
    on_ok_weaker c.add_each.result
    (λ added. found_rules f g (Contains c.args.rules.now) added refl refl) c.add_each.ensures
