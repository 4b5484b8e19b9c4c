use Rattle.std.proofs.Common.{ℕ, List, ◌∷◌, sym, ap, ◌∙◌}
use Rattle.cells.specs.Commands.{area_of_parts}
use Rattle.cells.proofs.AreaWords.{no_fifth}
use Rattle.cells.proofs.areas.behind_east.Goals as goal

pub returns-in-Some : goal.returns-in-Some
returns-in-Some c =
    sym (ap (λ (l : List (List ℕ)). area_of_parts (c.args.west.now ∷ c.args.south.now ∷ c.args.east.now ∷ l))
    c.in-Some.ensures.some ∙ no_fifth c.args.west.now c.args.south.now c.args.east.now
    c.in-Some.field-0.0.now c.in-Some.field-0.1.now)

pub returns-in-None : goal.returns-in-None
returns-in-None c =
    c.area_of_four.ensures
    ∙ ap (λ (l : List (List ℕ)). area_of_parts (c.args.west.now ∷ c.args.south.now ∷ c.args.east.now ∷ l))
    (sym c.in-None.ensures.none)
