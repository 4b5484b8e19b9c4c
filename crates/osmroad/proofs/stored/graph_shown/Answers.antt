use Rattle.std.proofs.Common.{ℕ, Option, IfOk, sym, subst}
use Rattle.access_profile.specs.Profiles.{rules_of}
use Rattle.moment_rules.specs.declared.moment.Moment.{Moment}
use Rattle.compiled_graph.specs.Compiled.{IsGraphOf}
use Rattle.osmroad.specs.Shown.{rules_shown}
use Rattle.osmroad.proofs.stored.graph_shown.Goals as goal

pub returns-in-None-clause-graph : goal.returns-in-None-clause-graph
returns-in-None-clause-graph g c =
    let events = c.args.events.items in
    subst (λ (o : Option Moment). IfOk c.graph_of.result
    (λ out. IsGraphOf (rules_shown o c.args.profile) events out.items)) (sym c.in-None.is)
    (subst (λ (n : ℕ). IfOk c.graph_of.result (λ out. IsGraphOf (rules_of n) events out.items)) c.profile_of.ensures
    c.graph_of.ensures.graph)

pub returns-in-Some-clause-graph : goal.returns-in-Some-clause-graph
returns-in-Some-clause-graph g c =
    subst (λ (o : Option Moment). IfOk c.graph_at.result
    (λ out. IsGraphOf (rules_shown o c.args.profile) c.args.events.items out.items)) (sym c.in-Some.is)
    c.graph_at.ensures.graph
