use Rattle.std.proofs.Common.{sym, subst, Contains}
use Rattle.std.proofs.lemmas.List.Elements.{Contains-get_or}
use Rattle.graph_blocks.specs.Lent.{map_of}
use Rattle.context_search.specs.declared.ends.Begin.{Begin}
use Rattle.context_search.specs.Listed.{contexts_in}
use Rattle.context_search.proofs.SearchMarks.{grows_again}
use Rattle.context_search.proofs.SearchStarts.{start_grows, start_keeps, start_visited, start_begun, more_started}
use Rattle.context_search.proofs.SearchStarts.{all_started}
use Rattle.context_search.proofs.following.begin.Goals as goal

pub loop-start-preserved : goal.loop-start-preserved
loop-start-preserved g c =
    let F = g.F.Phases.rules c.args.phases.now in
    let L = contexts_in (map_of c.args.blocks.now) in
    let old = c.loop-start.invariant in
    let m = c.loop-start.search in
    let n = c.begin_on.new.search in
    let s = c.start-item.result in
    let is = c.in_ok-begin_on.ensures.marked in
    let starts = c.args.starts.now in
    let i = c.loop-start.start-index in
    let has : Contains starts s = subst (λ (t : Begin). Contains starts t) (sym c.start-item.is)
    (Contains-get_or starts i s c.loop-start-test.true) in
    record {
      search = start_keeps F L s m n is old.search c.in_ok-begin_on.ensures.known;
      grows = grows_again L c.args.search.now m n old.grows (start_grows F L s m n is);
      begun = start_begun F L s m n is starts has old.begun;
      all = more_started F L starts i s s m n c.loop-start-test.true c.start-item.is (start_grows F L s m n is)
          (start_visited F L s m n is) old.all;
    }

pub returns-clause-all : goal.returns-clause-all
returns-clause-all g c = all_started (g.F.Phases.rules c.args.phases.now) c.args.starts.now c.loop-start.start-index
    c.loop-start.search c.loop-start-test.false c.loop-start.invariant.all
