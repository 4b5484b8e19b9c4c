use Rattle.std.proofs.Common.{◌≡◌, ◌++◌, ◌∷◌, [], subst, sym, ap, ◌∙◌, append_assoc}
use Rattle.std.specs.Option.{option_copied}
use Rattle.layered_maps.specs.Walks.{IsNext}
use Rattle.drive_queries.proofs.CountedBlocks.{one_more}
use Rattle.drive_queries.proofs.totals.counts_of.Goals as goal

pub loop-block-preserved : goal.loop-block-preserved
loop-block-preserved c =
    let was = c.loop-block.invariant in
    let block = c.in-Some.block.now in
    let rest = c.next.new.self in
    let taken : c.loop-block.rest ≡ block ∷ rest =
    subst (λ o. IsNext o c.loop-block.rest rest) (ap option_copied c.in-Some.is) c.next.ensures in
    let is = c.with_block-totals.ensures in
    record {
      front = was.front ++ block ∷ [];
      all = append_assoc was.front (block ∷ []) rest ∙ ap (λ l. was.front ++ l) (sym taken) ∙ was.all;
      counted = one_more was.front block c.loop-block.totals c.with_block-totals.result was.counted is.ways is.pieces
          is.contexts is.arcs;
    }
