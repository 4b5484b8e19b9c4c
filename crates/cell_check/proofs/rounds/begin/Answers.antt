use Rattle.cell_check.specs.Searches.{IsOne}
use Rattle.cell_check.proofs.FoundKeys.{finds_first, finds_next, finds_all}
use Rattle.cell_check.proofs.rounds.begin.Goals as goal

pub loop-key-init : goal.loop-key-init
loop-key-init c = finds_first (λ x. IsOne x x) c.new-search.result c.args.keys.now

pub loop-key-preserved : goal.loop-key-preserved
loop-key-preserved c =
    finds_next (λ x. IsOne x x) c.new-search.result c.loop-key.search c.reach.new.self c.args.keys.now
    c.loop-key.key-index _ c.loop-key-test.true c.loop-key.invariant c.in_ok-reach.ensures

pub returns : goal.returns
returns c = (
  c.new-search.result,
  c.new-search.ensures.starts,
  c.new-search.ensures.frontier,
  finds_all (λ x. IsOne x x) c.new-search.result c.loop-key.search c.args.keys.now c.loop-key.key-index
      c.loop-key-test.false c.loop-key.invariant,
)
