use Rattle.std.proofs.Common.{◌≡◌, rules, sym, ◌∙◌, ap}
use Rattle.ordered_lists.proofs.ListPlaces.{read_at, one_stands}
use Rattle.least_cost.proofs.conditions.is_at.Goals as goal

pub returns-clause-yes : goal.returns-clause-yes
returns-clause-yes c t =
    let p = c.index-places-at.result in
    (p, read_at c.args.places.now c.args.at p c.requires c.index-places-at.is, search rules)

pub returns-clause-no : goal.returns-clause-no
returns-clause-no c f place e n =
    let p = c.index-places-at.result in
    let same = one_stands c.args.places.now c.args.at place p e
    (read_at c.args.places.now c.args.at p c.requires c.index-places-at.is) in
    let k : p.node ≡ c.args.node = sym (ap (λ z. z.node) same) ∙ n in
    search rules
