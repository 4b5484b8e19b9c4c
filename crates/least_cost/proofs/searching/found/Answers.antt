use Rattle.std.proofs.Common.{◌∙◌, ap, sym}
use Rattle.context_search.specs.Marks.{at_of}
use Rattle.least_cost.proofs.searching.found.Goals as goal

pub unreachable-requires : goal.unreachable-requires
unreachable-requires c =
    let x = at_of c.args.from.now in
    let t = c.requires.targets x c.args.arc c.requires.listed c.requires.has in
    c.in-None.ensures.none t.0 t.1 (t.2 ∙ ap (λ ns. (c.args.arc.piece, ns)) (sym c.requires.names))
