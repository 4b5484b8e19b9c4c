use Rattle.std.proofs.Common.{◌∷◌, sym, ap, ◌∙◌}
use Rattle.cells.specs.Commands.{area_of_parts}
use Rattle.cells.proofs.areas.behind_south.Goals as goal

pub returns-in-Some : goal.returns-in-Some
returns-in-Some c = c.behind_east.ensures ∙ ap (λ l. area_of_parts (c.args.west.now ∷ c.args.south.now ∷ l))
    (sym c.in-Some.ensures.some)

pub returns-in-None : goal.returns-in-None
returns-in-None c = ap (λ l. area_of_parts (c.args.west.now ∷ c.args.south.now ∷ l)) (sym c.in-None.ensures.none)
