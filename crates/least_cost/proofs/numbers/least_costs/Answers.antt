use Rattle.std.proofs.Common.{rules, arith, length, map, sym, ◌∙◌}
use Rattle.std.proofs.lemmas.List.{at_drop_all, length-map}
use Rattle.context_search.specs.Marks.{at_of}
use Rattle.least_cost.specs.Lowered.{least_at}
use Rattle.least_cost.proofs.LawNumbers.{none_reached}
use Rattle.least_cost.proofs.numbers.least_costs.Goals as goal

pub loop-place-init : goal.loop-place-init
loop-place-init c =
    let L = map at_of c.args.spots.now in
    let visits = c.args.visits.now in
    c.in_ok-costs.ensures.items_if_clones_equal (λ y is. search rules)
    ∙ none_reached L (length c.args.spots.now) (sym (length-map c.args.spots.now at_of))
    ∙ sym (at_drop_all (λ v. map (least_at v) L) visits (length visits) (omega arith))
