use Rattle.std.proofs.Common.{◌≡◌, Some, None, sym, ap, ◌∙◌}
use Rattle.std.specs.FinMap.{find}
use Rattle.layered_maps.specs.Layers.{laid, values_of}
use Rattle.layered_maps.proofs.LayerPairs.{laid_first, laid_behind}
use Rattle.layered_maps.proofs.layers.+found.Goals as goal

pub returns-in-Some-get : goal.returns-in-Some-get
returns-in-Some-get g t c =
    let R = g.K.Ord.cmp in
    let k = c.args.key in
    let is : find R k c.in-Some.first.now.value ≡ Some c.in-Some-get.value.now
    = ap (find R k) (sym c.deref.ensures) ∙ sym c.in-Some-get.ensures in
    sym (ap (λ l. find R k (laid R (values_of l))) c.in-Some.ensures.cases.0
    ∙ laid_first R g.met.K.Ord.total k c.in-Some.first.now.value (values_of c.in-Some.behind.now)
    c.in-Some-get.value.now is)

pub returns-in-None-get : goal.returns-in-None-get
returns-in-None-get g t c =
    let R = g.K.Ord.cmp in
    let k = c.args.key in
    let none : find R k c.in-Some.first.now.value ≡ None
    = ap (find R k) (sym c.deref.ensures) ∙ sym c.in-None-get.ensures in
    c.found.ensures
    ∙ sym (ap (λ l. find R k (laid R (values_of l))) c.in-Some.ensures.cases.0
    ∙ laid_behind R g.met.K.Ord.total k c.in-Some.first.now.value (values_of c.in-Some.behind.now) none)
