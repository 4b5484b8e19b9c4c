-- The nodes let one pass, or don't; then the ways at the node are asked.
use Rattle.std.proofs.Common.{refl, sym, ◌∙◌}
use Rattle.std.proofs.lemmas.Bool.{false≢true}
use Rattle.junctions.proofs.Positions.{is_not, not_is}
use Rattle.junctions.proofs.plain.is_passed.Goals as goal

pub returns-then-may_pass : goal.returns-then-may_pass
returns-then-may_pass g c = (
  λ yes. record { may = c.if-may_pass.ensures.0 refl; no_other = c.is_on_other.ensures.0 (is_not _ yes) },
  λ passed. not_is _ (c.is_on_other.ensures.1 passed.no_other),
)

pub returns-else-may_pass : goal.returns-else-may_pass
returns-else-may_pass g c = (
  λ yes. absurd (false≢true (sym c.if-may_pass.false ∙ yes)),
  λ passed. c.may_pass.ensures.1 passed.may,
)
