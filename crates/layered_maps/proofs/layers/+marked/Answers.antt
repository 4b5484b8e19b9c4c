use Rattle.std.proofs.Common.{ℤ, Ok, Err, sym, subst}
use Rattle.std.specs.Result.{IfOk}
use Rattle.layered_maps.specs.Layers.{laid, values_of}
use Rattle.layered_maps.specs.Filters.{IsMarked, AreMarked}
use Rattle.layered_maps.proofs.MarkedPairs.{laid_marked}
use Rattle.layered_maps.proofs.layers.+marked.Goals as goal

pub returns-in_ok-marked-in-Some : goal.returns-in_ok-marked-in-Some
returns-in_ok-marked-in-Some g t c =
    let R = g.K.Ord.cmp in
    let number = g.K.Slotted.number in
    let old = c.in_ok-marked-in-Some.field-0 in
    let rest = laid R (values_of c.in-Some.behind.now) in
    elim c.marked-in-Some.result as (λ r. IfOk r (λ m. AreMarked R number c.deref.result.now m)
    → IfOk r (λ m. (other : ℤ) → IsMarked old other → IsMarked m other)
    → IfOk r (λ m. AreMarked R number (laid R (values_of c.args.runs.now)) m)) [
      | Ok m ↦ λ own others.
          subst (λ l. AreMarked R number (laid R (values_of l)) m) (sym c.in-Some.ensures.cases.0)
          (laid_marked R g.met.K.Ord.total number g.met.K.Slotted.tied c.in-Some.first.now.value rest old m
          (subst (λ l. AreMarked R number l m) c.deref.ensures own) c.in_ok-marked-in-Some.ensures others)
      | Err e ↦ λ own others. tt
    ] c.marked-in-Some.ensures.own c.marked-in-Some.ensures.others
