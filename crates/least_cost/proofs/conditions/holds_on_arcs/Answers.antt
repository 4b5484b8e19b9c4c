use Rattle.std.proofs.Common.{◌≡◌, ◌∙◌, List, map, slice_get, inl, inr, sym, ap, subst, arith, Contains}
use Rattle.context_search.specs.declared.spots.Spot.{Spot}
use Rattle.std.proofs.lemmas.Bool.{cases_lt}
use Rattle.std.proofs.lemmas.Option.{slice_get_within}
use Rattle.ordered_lists.proofs.ListPlaces.{contains_at, at_contains, one_stands}
use Rattle.road_model.specs.declared.lists.TurnArc.{TurnArc}
use Rattle.context_search.specs.Marks.{At, at_of}
use Rattle.least_cost.specs.Shown.{HoldsOnArc}
use Rattle.least_cost.proofs.CheckTables.{read_is}
use Rattle.least_cost.proofs.conditions.holds_on_arcs.Goals as goal

pub holds_on_arc-requires-clause-has : goal.holds_on_arc-requires-clause-has
holds_on_arc-requires-clause-has c x at =
    let t = c.args.numbered.now in
    let s = c.index-numbered-number in
    let same = read_is t.spots.now t.numbers.now t.costs.now c.requires.numbered c.args.number x s.result
    c.requires.within s.is at in
    subst (λ (l : List TurnArc). Contains l c.arc_of.result)
    (c.items-arcs.ensures ∙ ap (λ (z : Spot). z.context.now.arcs) (sym s.is)
    ∙ ap (λ (y : At). y.context.arcs) (sym same))
    (contains_at c.items-arcs.result.now c.loop-place.place c.arc_of.result c.arc_of.ensures)

pub loop-place-preserved : goal.loop-place-preserved
loop-place-preserved c k x arc h at_arc at = elim (cases_lt k c.loop-place.place) [
  | inl before ↦ c.loop-place.invariant k x arc before at_arc at
  | inr behind ↦
      let e : k ≡ c.loop-place.place = omega arith in
      let one : arc ≡ c.arc_of.result = one_stands c.items-arcs.result.now c.loop-place.place arc c.arc_of.result
      (ap (slice_get c.items-arcs.result.now) (sym e) ∙ at_arc) c.arc_of.ensures in
      let t = c.args.numbered.now in
      subst (λ (z : TurnArc). HoldsOnArc (map at_of t.spots.now) t.numbers.now c.args.claim.now.b
      c.args.claim.now.cost c.args.number x z) (sym one) (c.in_ok-holds.ensures.yes c.if-not-holds.false x at)
]

pub returns-then-not-holds-clause-no : goal.returns-then-not-holds-clause-no
returns-then-not-holds-clause-no c f x at h =
    let t = c.args.numbered.now in
    let s = c.index-numbered-number in
    let same = read_is t.spots.now t.numbers.now t.costs.now c.requires.numbered c.args.number x s.result
    c.requires.within s.is at in
    let has = subst (λ (l : List TurnArc). Contains l c.arc_of.result)
    (c.items-arcs.ensures ∙ ap (λ (z : Spot). z.context.now.arcs) (sym s.is)
    ∙ ap (λ (y : At). y.context.arcs) (sym same))
    (contains_at c.items-arcs.result.now c.loop-place.place c.arc_of.result c.arc_of.ensures) in
    c.in_ok-holds.ensures.no c.if-not-holds.true x at (h c.arc_of.result has)

pub returns-clause-yes : goal.returns-clause-yes
returns-clause-yes c t_is x arc at has =
    let t = c.args.numbered.now in
    let s = c.index-numbered-number in
    let same = read_is t.spots.now t.numbers.now t.costs.now c.requires.numbered c.args.number x s.result
    c.requires.within s.is at in
    let stands = at_contains c.items-arcs.result.now arc (subst (λ (l : List TurnArc). Contains l arc)
    (ap (λ (y : At). y.context.arcs) same ∙ ap (λ (z : Spot). z.context.now.arcs) s.is
    ∙ sym c.items-arcs.ensures) has) in
    let h = slice_get_within c.items-arcs.result.now stands.0 arc stands.1 in
    c.loop-place.invariant stands.0 x arc (omega arith) stands.1 at
