use Rattle.std.proofs.Common.{◌∙◌, sym, ap, arith}
use Rattle.context_search.specs.declared.spots.Spot.{Spot}
use Rattle.least_cost.proofs.CheckTables.{ends_read, ends_back}
use Rattle.least_cost.proofs.NearContexts.{marks_count, mark_is, ends_passed_over}
use Rattle.least_cost.proofs.conditions.holds_up_to_goal.Goals as goal

pub is_marked-requires : goal.is_marked-requires
is_marked-requires c =
    let t = c.args.numbered.now in
    let e = marks_count c.args.claim.now.b t.spots.now t.passed.now c.requires.beside.marks in
    omega arith

pub returns-then-not-is_marked-clause-yes : goal.returns-then-not-is_marked-clause-yes
returns-then-not-is_marked-clause-yes c yes_is x at =
    let t = c.args.numbered.now in
    let m = c.args.claim.now in
    let mark = mark_is m.b t.spots.now t.passed.now c.requires.beside.marks c.args.to x c.is_marked.result at
    c.is_marked.ensures in
    ends_passed_over m.b m.cost c.args.number x.piece.places (sym mark ∙ c.if-not-is_marked.true)

pub returns-clause-yes : goal.returns-clause-yes
returns-clause-yes c yes_is x at =
    let t = c.args.numbered.now in
    let m = c.args.claim.now in
    let s = c.index-numbered-to in
    ends_read t.spots.now m.b m.cost c.args.number c.args.to x s.result c.items.result.now c.requires.within s.is at
    (c.items.ensures ∙ ap (λ (z : Spot). z.piece.now.places) (sym s.is)) (c.holds_at_ends.ensures.yes yes_is)

pub returns-clause-no : goal.returns-clause-no
returns-clause-no c no_is x at h =
    let t = c.args.numbered.now in
    let m = c.args.claim.now in
    let s = c.index-numbered-to in
    c.holds_at_ends.ensures.no no_is (ends_back t.spots.now m.b m.cost c.args.number c.args.to x s.result
    c.items.result.now c.requires.within s.is at (c.items.ensures ∙ ap (λ (z : Spot). z.piece.now.places) (sym s.is))
    h)
