use Rattle.std.proofs.Common.{[], sym, subst}
use Rattle.road_base.specs.Profiles.{IsProfile}
use Rattle.store_switch.specs.Checkpointing.{checkpoint_of}
use Rattle.journal_tests.proofs.checkpoint_tests.go_on_and_add.Goals as goal

pub checkpoint-requires-clause-known : goal.checkpoint-requires-clause-known
checkpoint-requires-clause-known c =
    subst IsProfile (sym c.profile-profile.ensures) c.in_ok-loaded.ensures.known

pub checkpoint-requires-clause-on_store : goal.checkpoint-requires-clause-on_store
checkpoint-requires-clause-on_store c = λ not_closed.
    (c.in_ok-loaded.ensures.told.answer.history, c.in_ok-loaded.ensures.told.answer.ready)

pub append-requires : goal.append-requires
append-requires c = λ not_closed.
    let store = c.in_ok-loaded.ensures.told.answer in
    (checkpoint_of _ store.history [], (c.in_ok-checkpoint.ensures.told store.history store.ready).ok.at)
