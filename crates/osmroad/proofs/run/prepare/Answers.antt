use Rattle.std.proofs.Common.{Some, sym, subst}
use Rattle.osmroad.specs.declared.command.Command.{Command}
use Rattle.osmroad.specs.declared.command.Command.TheVariants.{Compile, Inspect, Sample, Graph, Audit, Checkpoint}
use Rattle.osmroad.specs.Commands.{HasProfile}
use Rattle.osmroad.specs.Run.{Builds}
use Rattle.osmroad.proofs.UnusedSides.{no_read, no_call}
use Rattle.osmroad.proofs.run.prepare.Goals as goal

pub compile-requires : goal.compile-requires
compile-requires g c = subst HasProfile c.in-Compile.is c.requires

pub returns-in-Compile-clause-calls : goal.returns-in-Compile-clause-calls
returns-in-Compile-clause-calls g c =
    let outside = g.W.Site.outside c.args.site.now in
    no_call (Some (Compile c.in-Compile.profile)) c.compile.result (g.S.Source.bytes_left c.args.source.now)
    (g.S.Source.bytes_left c.compile.new.source) outside outside (c.compile.ensures.prepares outside)
    (λ stored. stored) (g.W.Site.faults c.args.site.now)

pub returns-in-Compile-clause-built : goal.returns-in-Compile-clause-built
returns-in-Compile-clause-built g c =
    let held = g.S.Source.bytes_left c.args.source.now in
    let outside = g.W.Site.outside c.args.site.now in
    subst (λ (command : Command). Builds (Some command) held outside c.args.steps.now c.compile.new.steps)
    (sym c.in-Compile.is) (c.compile.ensures.built outside)

pub returns-in-Inspect-clause-calls : goal.returns-in-Inspect-clause-calls
returns-in-Inspect-clause-calls g c =
    let outside = g.W.Site.outside c.args.site.now in
    no_call (Some Inspect) c.inspect.result (g.S.Source.bytes_left c.args.source.now)
    (g.S.Source.bytes_left c.inspect.new.source) outside outside (c.inspect.ensures.prepares outside)
    (λ stored. stored) (g.W.Site.faults c.args.site.now)

pub returns-in-Sample-clause-reads : goal.returns-in-Sample-clause-reads
returns-in-Sample-clause-reads g c =
    let held = g.S.Source.bytes_left c.args.source.now in
    let outside = g.W.Site.outside c.args.site.now in
    no_read (Some (Sample c.in-Sample.number)) c.sample.result held held outside outside
    (c.sample.ensures held outside) (λ reading. reading) (g.S.Source.faults c.args.source.now)

pub returns-in-Sample-clause-calls : goal.returns-in-Sample-clause-calls
returns-in-Sample-clause-calls g c =
    let held = g.S.Source.bytes_left c.args.source.now in
    let outside = g.W.Site.outside c.args.site.now in
    no_call (Some (Sample c.in-Sample.number)) c.sample.result held held outside outside
    (c.sample.ensures held outside) (λ stored. stored) (g.W.Site.faults c.args.site.now)

pub returns-in-Sample-clause-built : goal.returns-in-Sample-clause-built
returns-in-Sample-clause-built g c =
    let held = g.S.Source.bytes_left c.args.source.now in
    let outside = g.W.Site.outside c.args.site.now in
    subst (λ (command : Command). Builds (Some command) held outside c.args.steps.now c.sample.new.steps)
    (sym c.in-Sample.is) tt

pub returns-in-Graph-clause-reads : goal.returns-in-Graph-clause-reads
returns-in-Graph-clause-reads g c =
    let held = g.S.Source.bytes_left c.args.source.now in
    no_read (Some (Graph c.in-Graph.at)) c.stored_graph.result held held (g.W.Site.outside c.args.site.now)
    (g.W.Site.outside c.stored_graph.new.site) (c.stored_graph.ensures.prepares held)
    (λ reading. reading) (g.S.Source.faults c.args.source.now)

pub returns-in-Graph-clause-built : goal.returns-in-Graph-clause-built
returns-in-Graph-clause-built g c =
    let held = g.S.Source.bytes_left c.args.source.now in
    let outside = g.W.Site.outside c.args.site.now in
    subst (λ (command : Command). Builds (Some command) held outside c.args.steps.now c.stored_graph.new.steps)
    (sym c.in-Graph.is) (c.stored_graph.ensures.built held)

pub returns-in-Audit-clause-reads : goal.returns-in-Audit-clause-reads
returns-in-Audit-clause-reads g c =
    let held = g.S.Source.bytes_left c.args.source.now in
    no_read (Some Audit) c.stored_audit.result held held (g.W.Site.outside c.args.site.now)
    (g.W.Site.outside c.stored_audit.new.site) (c.stored_audit.ensures.prepares held)
    (λ reading. reading) (g.S.Source.faults c.args.source.now)

pub returns-in-Checkpoint-clause-reads : goal.returns-in-Checkpoint-clause-reads
returns-in-Checkpoint-clause-reads g c =
    let held = g.S.Source.bytes_left c.args.source.now in
    no_read (Some (Checkpoint c.in-Checkpoint.base)) c.checkpoint.result held held (g.W.Site.outside c.args.site.now)
    (g.W.Site.outside c.checkpoint.new.site) (c.checkpoint.ensures.prepares held)
    (λ reading. reading) (g.S.Source.faults c.args.source.now)
