use Rattle.std.proofs.lemmas.Result.{on_ok_weaker}
use Rattle.graph_blocks.specs.Lent.{map_of}
use Rattle.context_search.specs.Listed.{contexts_in}
use Rattle.context_search.proofs.SearchStarts.{start_marked}
use Rattle.context_search.proofs.following.begin_on.Goals as goal

pub returns-clause-marked : goal.returns-clause-marked
returns-clause-marked g c = on_ok_weaker _
    (start_marked (g.F.Phases.rules c.args.phases.now) (contexts_in (map_of c.args.blocks.now)) c.args.start.now
    c.args.search.now c.mark.new.self c.in-Some.spot c.in-Some.ensures.listed c.in-Some.ensures.named
    c.start-phase.result c.start-phase.ensures) c.mark.ensures.marked

pub unreachable-requires : goal.unreachable-requires
unreachable-requires g c = c.in-None.ensures.none c.requires.listed.0 c.requires.listed.1 c.requires.listed.2
