use Rattle.std.proofs.Common.{sym, ◌∙◌}
use Rattle.cells.proofs.PlacesWithin.{within, outside, nowhere}
use Rattle.cells.proofs.made.lies_in.Goals as goal

pub returns-in-Some-clause-yes : goal.returns-in-Some-clause-yes
returns-in-Some-clause-yes c inside =
    within c.args.area.now c.args.event.now c.in-Some.place (sym c.place_of.ensures ∙ c.in-Some.is)
    (sym c.holds.ensures ∙ inside)

pub returns-in-Some-clause-no : goal.returns-in-Some-clause-no
returns-in-Some-clause-no c apart =
    outside c.args.area.now c.args.event.now c.in-Some.place (sym c.place_of.ensures ∙ c.in-Some.is)
    (sym c.holds.ensures ∙ apart)

pub returns-in-None-clause-no : goal.returns-in-None-clause-no
returns-in-None-clause-no c apart =
    nowhere c.args.area.now c.args.event.now (sym c.place_of.ensures ∙ c.in-None.is)
