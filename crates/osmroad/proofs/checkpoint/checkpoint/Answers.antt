use Rattle.std.proofs.Common.{ℕ, Ok, Err, ◌∙◌, ap, refl, sym, subst, arith}
use Rattle.road_base.specs.Profiles.{IsProfile}
use Rattle.road_base.specs.declared.ids.Sequence.{Sequence}
use Rattle.osmroad.specs.Checkpoints.{profile_of_base, base_line}
use Rattle.road_io.proofs.ToldCalls.{told_gives}
use Rattle.sequence_journal.specs.declared.load.Loaded.{Loaded}
use Rattle.store_switch.specs.StoreLoading.{LoadsStore}
use Rattle.store_switch.specs.Checkpointing.{IsOnSome}
use Rattle.osmroad.proofs.Prepared.{no_memory}
use Rattle.osmroad.proofs.AnsweredFaults.{fault_calls, failed_calls, calls_calm, later_calls}
use Rattle.session.proofs.HeldSource.{behind_of}
use Rattle.osmroad.proofs.CheckpointedStores.{checkpoint_refused, checkpoint_failed, told_checkpoints}
use Rattle.osmroad.proofs.CheckpointedStores.{checkpoint_written, checkpoint_not_written, checkpoint_calls}
use Rattle.osmroad.proofs.checkpoint.checkpoint.Goals as goal

-- ---- the store isn't loaded

pub returns-in-Err-clause-prepares : goal.returns-in-Err-clause-prepares
returns-in-Err-clause-prepares g c = λ held.
    let laws = c.store_laws.ensures in
    checkpoint_refused c.args.base laws.store held _ _ c.in-Err.error c.refuse_store.result
    c.in-Err.ensures.named c.refuse_store.ensures c.in-Err.ensures.told

pub returns-in-Err-clause-calls : goal.returns-in-Err-clause-calls
returns-in-Err-clause-calls g c =
    fault_calls {T = Loaded} c.in-Err.error c.refuse_store.result _ _ c.refuse_store.ensures c.in-Err.ensures.counts

-- ---- memory ends

pub returns-in_err-objects-clause-prepares : goal.returns-in_err-objects-clause-prepares
returns-in_err-objects-clause-prepares g c = λ held.
    let laws = c.store_laws.ensures in
    checkpoint_failed c.args.base laws.store c.in-Ok.loaded _ _ c.in-Ok.ensures.told held c.from_residual.result
    (no_memory c.from_residual.result c.from_residual.ensures.1)

pub returns-in_err-objects-clause-calls : goal.returns-in_err-objects-clause-calls
returns-in_err-objects-clause-calls g c = failed_calls c.from_residual.result _ _
    (no_memory c.from_residual.result c.from_residual.ensures.1) (c.in-Ok.ensures.counts.stays (λ e. (cc)))

pub returns-in_err-line-clause-prepares : goal.returns-in_err-line-clause-prepares
returns-in_err-line-clause-prepares g c = λ held.
    let laws = c.store_laws.ensures in
    let failed = c.from_residual-in_err-line in
    checkpoint_failed c.args.base laws.store c.in-Ok.loaded _ _ c.in-Ok.ensures.told held failed.result
    (no_memory failed.result failed.ensures.1)

pub returns-in_err-line-clause-calls : goal.returns-in_err-line-clause-calls
returns-in_err-line-clause-calls g c =
    let failed = c.from_residual-in_err-line in
    failed_calls failed.result _ _ (no_memory failed.result failed.ensures.1) (c.in-Ok.ensures.counts.stays (λ e. (cc)))

-- ---- the checkpoint is written

pub profile_of_base-profile-requires : goal.profile_of_base-profile-requires
profile_of_base-profile-requires g c = subst IsProfile (sym c.profile.ensures) c.in-Ok.ensures.known

pub checkpoint-requires-clause-known : goal.checkpoint-requires-clause-known
checkpoint-requires-clause-known g c = c.profile_of_base-profile.ensures.known

pub checkpoint-requires-clause-not_lower : goal.checkpoint-requires-clause-not_lower
checkpoint-requires-clause-not_lower g c = omega (arith, c.profile_of_base-profile.ensures.not_lower, c.profile.ensures)

pub checkpoint-requires-clause-on_store : goal.checkpoint-requires-clause-on_store
checkpoint-requires-clause-on_store g c = λ alive. told_gives (g.W.Site.outside c.args.site.now)
    (g.W.Site.outside c.load_store.new.site) (LoadsStore (Ok c.in-Ok.loaded))
    (IsOnSome c.in-Ok.loaded.journal) c.in-Ok.ensures.told
    (λ w v k. (k.answer.history, k.answer.ready))

pub returns-in-Ok-checkpoint-clause-prepares : goal.returns-in-Ok-checkpoint-clause-prepares
returns-in-Ok-checkpoint-clause-prepares g c = λ held.
    let laws = c.store_laws.ensures in
    let before = g.W.Site.outside c.args.site.now in
    let loaded = g.W.Site.outside c.load_store.new.site in
    let now = g.W.Site.outside c.checkpoint.new.site in
    let events = c.items.result.now in
    let is = c.in_ok-objects.ensures in
    let are = sym c.items.ensures.entries in
    let u = c.in-Ok-checkpoint.field-0 in
    checkpoint_written c.args.base laws.store c.in-Ok.loaded c.in_ok-objects.objects is events are laws.checkpoint
    c.checkpoint.new.journal c.profile_of_base-profile.result
    (c.profile_of_base-profile.ensures.is ∙ ap (λ (n : ℕ). profile_of_base c.args.base n) c.profile.ensures) _ _
    (behind_of held) before now held refl u c.new.result (
      c.new.ensures.0,
      c.new.ensures.1 ∙ c.in_ok-line.ensures
          ∙ ap (λ (n : Sequence). base_line c.args.base n.0) c.kept.ensures,
    )
    c.in-Ok-checkpoint.ensures.answer
    (told_checkpoints c.in-Ok.loaded c.checkpoint.new.journal c.profile_of_base-profile.result events (Ok u) before
    loaded now c.in-Ok.ensures.told c.in-Ok-checkpoint.ensures.told)

pub returns-in-Ok-checkpoint-clause-calls : goal.returns-in-Ok-checkpoint-clause-calls
returns-in-Ok-checkpoint-clause-calls g c = calls_calm _ _ _
    (c.in-Ok-checkpoint.ensures.answer.2 ∙ c.in-Ok.ensures.counts.stays (λ e. (cc))) (λ e. (cc))

-- ---- it isn't written

pub returns-clause-prepares : goal.returns-clause-prepares
returns-clause-prepares g c = λ held.
    let laws = c.store_laws.ensures in
    let before = g.W.Site.outside c.args.site.now in
    let loaded = g.W.Site.outside c.load_store.new.site in
    let now = g.W.Site.outside c.checkpoint.new.site in
    let events = c.items.result.now in
    let is = c.in_ok-objects.ensures in
    let are = sym c.items.ensures.entries in
    let failed = c.in-Err-checkpoint in
    let refused = c.refuse_store-in-Err-checkpoint in
    checkpoint_not_written c.args.base laws.store c.in-Ok.loaded c.in_ok-objects.objects is events are laws.checkpoint
    c.checkpoint.new.journal c.profile_of_base-profile.result
    (c.profile_of_base-profile.ensures.is ∙ ap (λ (n : ℕ). profile_of_base c.args.base n) c.profile.ensures)
    _ _ (behind_of held) before now held refl failed.error refused.result c.in-Ok.ensures.not_closed
    failed.ensures.answer
    refused.ensures
    (told_checkpoints c.in-Ok.loaded c.checkpoint.new.journal c.profile_of_base-profile.result events (Err failed.error)
    before loaded now c.in-Ok.ensures.told failed.ensures.told)

pub returns-clause-calls : goal.returns-clause-calls
returns-clause-calls g c =
    let failed = c.in-Err-checkpoint in
    let refused = c.refuse_store-in-Err-checkpoint in
    later_calls _ _ _ refused.result (c.in-Ok.ensures.counts.stays (λ e. (cc)))
    (checkpoint_calls c.in-Ok.loaded.journal c.checkpoint.new.journal c.profile_of_base-profile.result _ failed.error
    refused.result _ _ c.in-Ok.ensures.not_closed refused.ensures failed.ensures.answer)
