use Rattle.std.specs.FinMap.{values}
use Rattle.std.specs.Prelude.{option_copied}
use Rattle.graph_file.proofs.LookUps.{only_sources, not_none}
use Rattle.graph_file.proofs.graph.Graph.sources.Goals as goal

pub returns-in-Some-clause-only : goal.returns-in-Some-clause-only
returns-in-Some-clause-only c =
    only_sources (values c.args.self.now.blocks.map) c.args.piece c.args.place c.in-Some.contexts.now c.items.result.now
    (option_copied c.sources_at.result) c.items.ensures c.in-Some.ensures.only c.sources_at.ensures.only

pub returns-in-None-clause-only : goal.returns-in-None-clause-only
returns-in-None-clause-only c = λ l h. absurd (not_none h.contexts (c.in-None.ensures.only h.contexts h.has))
