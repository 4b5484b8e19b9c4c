use Rattle.std.proofs.Common.{sym, ◌∙◌}
use Rattle.std.proofs.lemmas.Result.{on_ok_weaker}
use Rattle.cells.proofs.PlacesCounted.{one_place, no_place}
use Rattle.cells.proofs.plan.PlaceCounter.count.Goals as goal

pub returns-in-Some : goal.returns-in-Some
returns-in-Some c = on_ok_weaker c.add.result
    (λ added. one_place _ _ c.args.event.now c.in-Some.place (sym c.place_of.ensures ∙ c.in-Some.is) added)
    c.add.ensures.ok

pub returns-in-None : goal.returns-in-None
returns-in-None c = no_place c.args.self.now c.args.event.now (sym c.place_of.ensures ∙ c.in-None.is)
