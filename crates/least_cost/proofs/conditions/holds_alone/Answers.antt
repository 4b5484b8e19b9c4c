use Rattle.std.proofs.Common.{◌∙◌, sym, ap, arith}
use Rattle.context_search.specs.declared.spots.Spot.{Spot}
use Rattle.context_search.specs.Marks.{At}
use Rattle.least_cost.proofs.CheckTables.{numbers_count, read_is, starts_read, starts_back}
use Rattle.least_cost.proofs.conditions.holds_alone.Goals as goal

pub number_of-requires : goal.number_of-requires
number_of-requires c =
    let t = c.args.numbered.now in
    let e = numbers_count t.spots.now t.numbers.now t.costs.now c.requires.numbered in
    omega arith

pub returns-clause-yes : goal.returns-clause-yes
returns-clause-yes c yes_is x at none =
    let t = c.args.numbered.now in
    let m = c.args.claim.now in
    starts_read t.spots.now t.numbers.now t.costs.now c.requires.numbered c.args.number x
    c.index-numbered-number.result c.requires.within c.index-numbered-number.is at m.a m.b m.cost c.number_of.result
    c.items-places.result.now c.number_of.ensures (c.items-places.ensures ∙ ap (λ (z : Spot). z.piece.now.places)
    (sym c.index-numbered-number.is)) (c.holds_at_starts.ensures.yes yes_is)

pub returns-clause-no : goal.returns-clause-no
returns-clause-no c no_is x at h =
    let t = c.args.numbered.now in
    let m = c.args.claim.now in
    let s = c.index-numbered-number in
    let same = read_is t.spots.now t.numbers.now t.costs.now c.requires.numbered c.args.number x s.result
    c.requires.within s.is at in
    let empty = ap (λ (y : At). y.context.before) same ∙ ap (λ (z : Spot). z.context.now.before) s.is
    ∙ c.is_alone.ensures.yes c.if-not-is_alone.false in
    c.holds_at_starts.ensures.no no_is (starts_back t.spots.now t.numbers.now t.costs.now c.requires.numbered
    c.args.number x s.result c.requires.within s.is at m.a m.b m.cost c.number_of.result
    c.items-places.result.now c.number_of.ensures (c.items-places.ensures
    ∙ ap (λ (z : Spot). z.piece.now.places) (sym s.is)) (h empty))

pub returns-then-not-is_alone-clause-yes : goal.returns-then-not-is_alone-clause-yes
returns-then-not-is_alone-clause-yes c yes_is x at none =
    let t = c.args.numbered.now in
    let s = c.index-numbered-number in
    let same = read_is t.spots.now t.numbers.now t.costs.now c.requires.numbered c.args.number x s.result
    c.requires.within s.is at in
    absurd (c.is_alone.ensures.no c.if-not-is_alone.true (ap (λ (z : Spot). z.context.now.before) (sym s.is)
    ∙ ap (λ (y : At). y.context.before) (sym same) ∙ none))
