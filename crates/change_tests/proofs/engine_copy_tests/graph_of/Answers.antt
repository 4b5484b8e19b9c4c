use Rattle.std.proofs.Common.{refl, sym, subst}
use Rattle.road_base.specs.Profiles.{IsProfile}
use Rattle.change_tests.proofs.engine_copy_tests.graph_of.Goals as goal

pub write-requires-clause-profile : goal.write-requires-clause-profile
write-requires-clause-profile c = subst IsProfile (sym c.number.ensures) refl

pub write-requires-clause-forms : goal.write-requires-clause-forms
write-requires-clause-forms c = c.blocks-2.ensures.forms
