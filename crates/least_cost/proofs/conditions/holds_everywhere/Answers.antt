use Rattle.std.proofs.Common.{◌≡◌, ◌∙◌, map, slice_get, inl, inr, ap, subst, arith, ℕ}
use Rattle.std.proofs.lemmas.Bool.{cases_lt}
use Rattle.std.proofs.lemmas.List.{length-map}
use Rattle.std.proofs.lemmas.Option.{slice_get_within}
use Rattle.ordered_lists.proofs.ListPlaces.{some_at}
use Rattle.context_search.specs.Marks.{at_of}
use Rattle.least_cost.proofs.CheckSpots.{map_within}
use Rattle.least_cost.specs.Shown.{HoldsAtContext}
use Rattle.least_cost.proofs.conditions.holds_everywhere.Goals as goal

pub loop-number-preserved : goal.loop-number-preserved
loop-number-preserved c k x h at = elim (cases_lt k c.loop-number.number) [
  | inl before ↦ c.loop-number.invariant k x before at
  | inr behind ↦
      let e : c.loop-number.number ≡ k = omega arith in
      let t = c.args.numbered.now in
      let m = c.args.claim.now in
      subst (λ (j : ℕ). HoldsAtContext (map at_of t.spots.now) t.numbers.now m.a m.b m.cost j x) e
      (c.in_ok-holds.ensures.yes c.if-not-holds.false x (ap (slice_get (map at_of t.spots.now)) e ∙ at))
]

pub returns-then-not-holds-clause-no : goal.returns-then-not-holds-clause-no
returns-then-not-holds-clause-no c f h =
    let spots = c.args.numbered.now.spots.now in
    let x = some_at (map at_of spots) c.loop-number.number
    (map_within at_of spots c.loop-number.number (omega arith)) in
    c.in_ok-holds.ensures.no c.if-not-holds.true x.0 x.1 (h c.loop-number.number x.0 x.1)

pub returns-clause-yes : goal.returns-clause-yes
returns-clause-yes c t_is n x at =
    let spots = c.args.numbered.now.spots.now in
    let h = slice_get_within (map at_of spots) n x at in
    let e = length-map spots at_of in
    c.loop-number.invariant n x (omega arith) at
