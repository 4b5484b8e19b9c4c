use Rattle.std.proofs.Common.{sym, subst}
use Rattle.road_base.specs.Profiles.{IsProfile}
use Rattle.journal_tests.proofs.checkpoint_tests.is_closed_by_a_fault.Goals as goal

pub checkpoint-answer-requires-clause-known : goal.checkpoint-answer-requires-clause-known
checkpoint-answer-requires-clause-known c =
    subst IsProfile (sym c.profile-profile.ensures) c.in_ok-loaded.ensures.known

pub checkpoint-answer-requires-clause-on_store : goal.checkpoint-answer-requires-clause-on_store
checkpoint-answer-requires-clause-on_store c = λ not_closed.
    (c.in_ok-loaded.ensures.told.answer.history, c.in_ok-loaded.ensures.told.answer.ready)
