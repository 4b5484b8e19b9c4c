use Rattle.std.proofs.Common.{ap, sym, ◌∙◌, subst, ◌<◌, slice_set}
use Rattle.context_search.specs.Marks.{at_of}
use Rattle.least_cost.proofs.LawNumbers.{lowered_in}
use Rattle.least_cost.proofs.numbers.lower.Goals as goal

pub unreachable-requires : goal.unreachable-requires
unreachable-requires c = c.in_default.ensures.none (at_of c.args.visit.now.spot) c.requires.listed
    (ap (λ b. (c.args.visit.now.spot.piece.now.name, b)) (sym c.items-names.ensures))

pub returns-clause-lowered : goal.returns-clause-lowered
returns-clause-lowered c visits e =
    ap (λ o. slice_set c.args.costs.now.items c.in-Some.number o) c.lesser_of.ensures
    ∙ lowered_in c.args.spots.now c.args.costs.now.items c.args.visit.now visits c.in-Some.number
    c.items-names.result.now c.index.result.now c.requires.up c.items-names.ensures c.in-Some.ensures.within
    c.in-Some.ensures.some (subst (λ n. c.in-Some.number < n) (sym c.requires.count) c.in-Some.ensures.within)
    c.index.ensures e
