use Rattle.std.proofs.Common.{ℕ, Ok, Err, ap, subst, ◌∙◌}
use Rattle.std.proofs.lemmas.Result.{err_from_is_err_and}
use Rattle.access_profile.specs.Profiles.{rules_of}
use Rattle.compiled_graph.specs.Compiled.{IsGraphOf}
use Rattle.last_words.specs.declared.status.Status.TheVariants.{Done}
use Rattle.osmroad.proofs.CompileReplies.{refused_extract, read_extract, failed_extract, will_put_graph}
use Rattle.osmroad.proofs.compile.compile.Goals as goal

-- ---- the input isn't taken

pub returns-in-Err-clause-prepares : goal.returns-in-Err-clause-prepares
returns-in-Err-clause-prepares g c = λ outside.
    refused_extract c.args.profile (g.S.Source.bytes_left c.args.source.now)
    (g.S.Source.bytes_left c.read_events.new.source) outside
    (g.S.Source.faults c.args.source.now) (g.S.Source.faults c.read_events.new.source)
    c.in-Err.error c.refuse_input.result c.in-Err.ensures.err c.refuse_input.ensures

-- ---- memory ended

pub returns-in_err-out-clause-prepares : goal.returns-in_err-out-clause-prepares
returns-in_err-out-clause-prepares g c = λ outside.
    let ended = err_from_is_err_and c.from_residual.result c.from_residual.ensures.1 in
    failed_extract c.args.profile (g.S.Source.bytes_left c.args.source.now)
    (g.S.Source.bytes_left c.read_events.new.source) outside
    c.in-Ok.events.items c.in-Ok.ensures.ok c.from_residual.result (ended.1 ∙ ap Err ended.2)

-- ---- the graph is made

pub returns-clause-prepares : goal.returns-clause-prepares
returns-clause-prepares g c = λ outside.
    let held = g.S.Source.bytes_left c.args.source.now in
    let left = g.S.Source.bytes_left c.read_events.new.source in
    let events = c.in-Ok.events.items in
    let whole = c.in-Ok.ensures.ok in
    read_extract c.args.profile held left outside events whole (Ok (record { status = Done; out = c.in_ok-out.out }))
    (will_put_graph c.args.profile held left outside events whole c.requires c.in_ok-out.out.items
    (subst (λ (n : ℕ). IsGraphOf (rules_of n) events c.in_ok-out.out.items) c.profile_of.ensures
    c.in_ok-out.ensures.graph))
