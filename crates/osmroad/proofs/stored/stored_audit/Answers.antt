use Rattle.std.proofs.Common.{ℕ, Some, ap, subst, sym, ◌∙◌}
use Rattle.std.specs.String.{string_bytes}
use Rattle.road_base.specs.Objects.{Objects}
use Rattle.road_base.specs.Profiles.{IsProfile}
use Rattle.access_profile.specs.declared.of_number.ProfileOf.{ProfileOf}
use Rattle.access_profile.specs.Profiles.{rules_of}
use Rattle.sequence_journal.specs.declared.load.Loaded.{Loaded}
use Rattle.osmroad.specs.declared.command.Command.TheVariants.{Audit}
use Rattle.osmroad.specs.Audit.{IsAudit}
use Rattle.osmroad.specs.Audited.{IsAuditOf}
use Rattle.osmroad.proofs.Prepared.{no_memory}
use Rattle.osmroad.proofs.AnsweredFaults.{fault_calls, failed_calls, calls_calm}
use Rattle.osmroad.proofs.ShownStores.{audit_shows, show_refused, show_failed, show_done}
use Rattle.osmroad.proofs.stored.stored_audit.Goals as goal

pub returns-in-Err-clause-prepares : goal.returns-in-Err-clause-prepares
returns-in-Err-clause-prepares g c = λ held.
    let laws = c.store_laws.ensures in
    show_refused laws.store (Some Audit)
    (λ n. IsAuditOf (rules_of n)) audit_shows held _ _ c.in-Err.error c.refuse_store.result
    c.in-Err.ensures.named c.refuse_store.ensures c.in-Err.ensures.told

pub returns-in-Err-clause-calls : goal.returns-in-Err-clause-calls
returns-in-Err-clause-calls g c =
    fault_calls {T = Loaded} c.in-Err.error c.refuse_store.result _ _ c.refuse_store.ensures c.in-Err.ensures.counts

pub profile_of-profile-requires : goal.profile_of-profile-requires
profile_of-profile-requires g c = subst IsProfile (sym c.profile.ensures) c.in-Ok.ensures.known

pub returns-in_err-world-clause-prepares : goal.returns-in_err-world-clause-prepares
returns-in_err-world-clause-prepares g c = λ held.
    let laws = c.store_laws.ensures in
    show_failed laws.store (Some Audit)
    (λ n. IsAuditOf (rules_of n)) audit_shows held _ _ c.in-Ok.loaded c.from_residual.result
    (no_memory c.from_residual.result c.from_residual.ensures.1) c.in-Ok.ensures.told

pub returns-in_err-world-clause-calls : goal.returns-in_err-world-clause-calls
returns-in_err-world-clause-calls g c = failed_calls c.from_residual.result _ _
    (no_memory c.from_residual.result c.from_residual.ensures.1) (c.in-Ok.ensures.counts.stays (λ e. (cc)))

pub returns-in_err-text-clause-prepares : goal.returns-in_err-text-clause-prepares
returns-in_err-text-clause-prepares g c = λ held.
    let laws = c.store_laws.ensures in
    let failed = c.from_residual-in_err-text in
    show_failed laws.store (Some Audit)
    (λ n. IsAuditOf (rules_of n)) audit_shows held _ _ c.in-Ok.loaded failed.result
    (no_memory failed.result failed.ensures.1) c.in-Ok.ensures.told

pub returns-in_err-text-clause-calls : goal.returns-in_err-text-clause-calls
returns-in_err-text-clause-calls g c =
    let failed = c.from_residual-in_err-text in
    failed_calls failed.result _ _ (no_memory failed.result failed.ensures.1)
    (c.in-Ok.ensures.counts.stays (λ e. (cc)))

pub returns-clause-prepares : goal.returns-clause-prepares
returns-clause-prepares g c = λ held.
    let laws = c.store_laws.ensures in
    show_done laws.store (Some Audit)
    (λ n. IsAuditOf (rules_of n)) audit_shows held _ _ c.in-Ok.loaded _
    c.new.result c.new.ensures
    c.in-Ok.ensures.told
    (record {
      objects = c.in_ok-world.world;
      applied = c.in_ok-world.ensures;
      audit = subst (λ (n : ℕ). IsAudit c.in_ok-world.world (rules_of n) (string_bytes c.in_ok-text.text))
          (ap (λ (p : ProfileOf). p.number) c.new-network.ensures.profile
          ∙ (c.profile_of-profile.ensures ∙ c.profile.ensures))
          (subst (λ (M : Objects). IsAudit M (rules_of c.new-network.result.profile.number)
          (string_bytes c.in_ok-text.text)) c.new-network.ensures.world c.in_ok-text.ensures);
    })

pub returns-clause-calls : goal.returns-clause-calls
returns-clause-calls g c = calls_calm _ _ _ (c.in-Ok.ensures.counts.stays (λ e. (cc))) (λ e. (cc))
