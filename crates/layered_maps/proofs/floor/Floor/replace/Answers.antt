use Rattle.std.proofs.Common.{◌≡◌, IsTrue, true, false, map, refl, sym, ap, ◌∙◌, subst}
use Rattle.ordered_lists.specs.Orders.{rises}
use Rattle.layered_maps.specs.Maps.{replaced}
use Rattle.layered_maps.proofs.FloorPairs.{set_rises, set_replaced, none_replaced}
use Rattle.layered_maps.proofs.floor.Floor.replace.Goals as goal

pub invariant_of-self : goal.invariant_of-self
invariant_of-self g c =
    let R = g.K.Ord.cmp in
    let key = g.V.Keyed.key in
    elim c.put.result as (λ b. c.put.result ≡ b → IsTrue (rises R (map key c.put.new.self))) [
      | true ↦ λ t.
          set_rises key R g.met.K.Ord.total c.self.inside.list c.of_parts-items.result
          c.put.new.self c.of_parts-items.ensures c.self.invariant c.args.value _ c.key-key.ensures c.in-Some.place
          c.in-Some.ensures.within (c.in-Some.ensures.found c.args.value) (c.put.ensures.put t)
      | false ↦ λ t. subst (λ l. IsTrue (rises R (map key l))) (sym (c.put.ensures.none t)) c.self.invariant
    ] refl

pub returns-in-Some-clause-replaced : goal.returns-in-Some-clause-replaced
returns-in-Some-clause-replaced g c = λ t.
    set_replaced g.V.Keyed.key g.K.Ord.cmp g.met.K.Ord.total c.self.inside.list c.of_parts-items.result
    c.put.new.self c.of_parts-items.ensures c.self.invariant c.args.value _ c.key-key.ensures c.in-Some.place
    c.in-Some.ensures.within (c.in-Some.ensures.found c.args.value) (c.put.ensures.put t)
    ∙ ap (replaced g.V.Keyed.key g.K.Ord.cmp c.args.value) c.self.view_is

pub returns-in-None-clause-replaced : goal.returns-in-None-clause-replaced
returns-in-None-clause-replaced g c = λ t.
    sym c.self.view_is
    ∙ none_replaced g.V.Keyed.key g.K.Ord.cmp g.met.K.Ord.total c.self.inside.list c.of_parts-items.result
    c.self.inside.list c.of_parts-items.ensures c.self.invariant c.args.value _ c.key-key.ensures
    c.in-None.ensures.none
    ∙ ap (replaced g.V.Keyed.key g.K.Ord.cmp c.args.value) c.self.view_is
