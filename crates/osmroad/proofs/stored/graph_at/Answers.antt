use Rattle.std.proofs.Common.{ℕ, IfOk, sym, subst}
use Rattle.road_base.specs.Profiles.{IsProfile}
use Rattle.moment_rules.specs.declared.moment.Moment.{Moment}
use Rattle.moment_rules.specs.AtMoment.{rules_at}
use Rattle.compiled_graph.specs.Compiled.{IsGraphOf}
use Rattle.osmroad.proofs.stored.graph_at.Goals as goal

pub graph_of-requires : goal.graph_of-requires
graph_of-requires g c = record { known = subst IsProfile (sym c.new.ensures.profile) c.requires }

pub returns-clause-graph : goal.returns-clause-graph
returns-clause-graph g c =
    let events = c.args.events.items in
    let graph = c.graph_of.result in
    subst (λ (n : ℕ). IfOk graph (λ out. IsGraphOf (rules_at n c.args.at) events out.items)) c.new.ensures.profile
    (subst (λ (m : Moment). IfOk graph (λ out. IsGraphOf (rules_at c.new.result.profile m) events out.items))
    c.new.ensures.at c.graph_of.ensures.graph)
