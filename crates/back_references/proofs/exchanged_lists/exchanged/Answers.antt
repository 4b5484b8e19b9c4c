use Rattle.std.proofs.Common.{Contains, sym, subst}
use Rattle.back_references.proofs.exchanged_lists.exchanged.Goals as goal

pub exchanged_among-requires-clause-gone : goal.exchanged_among-requires-clause-gone
exchanged_among-requires-clause-gone g c = λ p d.
    subst (λ l. Contains l p.0) (sym c.as_slice-3.ensures.value) (c.in_ok-keys.ensures.gone p
    (subst (λ l. Contains l p) (sym c.as_slice.ensures.value) d))

pub exchanged_among-requires-clause-come : goal.exchanged_among-requires-clause-come
exchanged_among-requires-clause-come g c = λ p d.
    subst (λ l. Contains l p.0) (sym c.as_slice-3.ensures.value) (c.in_ok-keys.ensures.come p
    (subst (λ l. Contains l p) (sym c.as_slice-2.ensures.value) d))
