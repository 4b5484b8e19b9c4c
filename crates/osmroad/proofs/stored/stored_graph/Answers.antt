use Rattle.std.proofs.Common.{ℕ, Some, refl, subst, sym, arith}
use Rattle.road_base.specs.Profiles.{IsProfile}
use Rattle.sequence_journal.specs.declared.load.Loaded.{Loaded}
use Rattle.osmroad.specs.declared.command.Command.TheVariants.{Graph}
use Rattle.compiled_graph.specs.Compiled.{IsGraphOf}
use Rattle.osmroad.specs.Shown.{rules_shown}
use Rattle.osmroad.proofs.Prepared.{no_memory}
use Rattle.osmroad.proofs.AnsweredFaults.{fault_calls, failed_calls, calls_calm}
use Rattle.osmroad.proofs.ShownStores.{graph_shows, show_refused, show_failed, show_done, graph_built}
use Rattle.osmroad.proofs.stored.stored_graph.Goals as goal

-- ---- the store isn't loaded

pub returns-in-Err-clause-prepares : goal.returns-in-Err-clause-prepares
returns-in-Err-clause-prepares g c = λ held.
    let laws = c.store_laws.ensures in
    show_refused laws.store (Some (Graph c.args.at))
    (λ n. IsGraphOf (rules_shown c.args.at n)) (graph_shows c.args.at) held _ _ c.in-Err.error c.refuse_store.result
    c.in-Err.ensures.named c.refuse_store.ensures c.in-Err.ensures.told

pub returns-in-Err-clause-calls : goal.returns-in-Err-clause-calls
returns-in-Err-clause-calls g c =
    fault_calls {T = Loaded} c.in-Err.error c.refuse_store.result _ _ c.refuse_store.ensures c.in-Err.ensures.counts

pub returns-in-Err-clause-built : goal.returns-in-Err-clause-built
returns-in-Err-clause-built g c = λ held w h objects told loads has. omega arith

-- ---- the profile is known

pub graph_shown-requires : goal.graph_shown-requires
graph_shown-requires g c = subst IsProfile (sym c.profile.ensures) c.in-Ok.ensures.known

-- ---- memory ends for the graph

pub returns-in_err-out-clause-prepares : goal.returns-in_err-out-clause-prepares
returns-in_err-out-clause-prepares g c = λ held.
    let laws = c.store_laws.ensures in
    show_failed laws.store (Some (Graph c.args.at))
    (λ n. IsGraphOf (rules_shown c.args.at n)) (graph_shows c.args.at) held _ _ c.in-Ok.loaded c.from_residual.result
    (no_memory c.from_residual.result c.from_residual.ensures.1) c.in-Ok.ensures.told

pub returns-in_err-out-clause-calls : goal.returns-in_err-out-clause-calls
returns-in_err-out-clause-calls g c = failed_calls c.from_residual.result _ _
    (no_memory c.from_residual.result c.from_residual.ensures.1) (c.in-Ok.ensures.counts.stays (λ e. (cc)))

pub returns-in_err-out-clause-built : goal.returns-in_err-out-clause-built
returns-in_err-out-clause-built g c = λ held.
    let laws = c.store_laws.ensures in
    graph_built c.args.at laws.store held _ _ c.in-Ok.loaded _ _ c.in-Ok.ensures.told c.in_err-out.ensures.built

-- ---- the graph is made

pub returns-clause-prepares : goal.returns-clause-prepares
returns-clause-prepares g c = λ held.
    let laws = c.store_laws.ensures in
    show_done laws.store (Some (Graph c.args.at))
    (λ n. IsGraphOf (rules_shown c.args.at n)) (graph_shows c.args.at) held _ _ c.in-Ok.loaded c.in_ok-out.out.items _
    (refl, refl) c.in-Ok.ensures.told
    (subst (λ (n : ℕ). IsGraphOf (rules_shown c.args.at n) c.in-Ok.loaded.events.items c.in_ok-out.out.items)
    c.profile.ensures c.in_ok-out.ensures.graph)

pub returns-clause-calls : goal.returns-clause-calls
returns-clause-calls g c = calls_calm _ _ _ (c.in-Ok.ensures.counts.stays (λ e. (cc))) (λ e. (cc))

pub returns-clause-built : goal.returns-clause-built
returns-clause-built g c = λ held.
    let laws = c.store_laws.ensures in
    graph_built c.args.at laws.store held _ _ c.in-Ok.loaded _ _ c.in-Ok.ensures.told c.in_ok-out.ensures.built
