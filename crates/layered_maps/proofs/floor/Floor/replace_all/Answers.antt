use Rattle.std.proofs.Common.{◌≡◌, [], ◌∷◌, ◌++◌, drop, length, take, sym, ap, ◌∙◌, subst}
use Rattle.std.specs.Option.{option_to_list}
use Rattle.layered_maps.specs.Maps.{replaced, replaced_by}
use Rattle.layered_maps.proofs.LastValues.{none_off, one_off}
use Rattle.layered_maps.proofs.floor.Floor.replace_all.Goals as goal

pub loop-value-init : goal.loop-value-init
loop-value-init g c =
    let none = none_off c.args.values.items in
    (none.0, ap (λ l. replaced_by g.V.Keyed.key g.K.Ord.cmp l c.args.self.now) (sym none.1))

pub loop-value-preserved : goal.loop-value-preserved
loop-value-preserved g c =
    let R = g.K.Ord.cmp in
    let key = g.V.Keyed.key in
    let front = c.pop.new.self.items in
    let all = c.args.values.items in
    let value = c.in-Some.value in
    let split : c.loop-value.values.items ≡ front ++ value ∷ []
    = c.pop.ensures.items ∙ ap (λ o. front ++ option_to_list o) c.in-Some.is in
    let off = one_off front all value
    (subst (λ l. l ≡ take (length l) all) split c.loop-value.invariant.0) in (
      off.0,
      c.replace.ensures.replaced c.if-not-replace.false
          ∙ ap (replaced key R value) c.loop-value.invariant.1
          ∙ ap (λ l. replaced_by key R (value ∷ drop (length l) all) c.args.self.now) split
          ∙ ap (λ l. replaced_by key R l c.args.self.now) (sym off.1),
    )
