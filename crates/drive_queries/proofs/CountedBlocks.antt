-- What blocks have, counted block after block.
use Rattle.std.proofs.Common.{◌≡◌, ℕ, ◌+◌, ◌++◌, List, [], ◌∷◌, length, sym, ap, ◌∙◌, arith, length-append}
use Rattle.std.proofs.lemmas.List.Sums.{sum_by_push}
use Rattle.road_model.specs.declared.blocks.Block.{Block}
use Rattle.drive_queries.specs.declared.totals.Totals.{Totals}
use Rattle.drive_queries.specs.Counting.{counted, totals_of, pieces_in, contexts_in, arcs_in, contexts_on, arcs_on}

-- what is added to a number that was cut off is cut off as it would be
counted_more : (n m : ℕ) → counted (counted n + m) ≡ counted (n + m)
counted_more n m = omega arith

more : (t n m u k : ℕ) → t ≡ counted n → u ≡ counted (t + m) → k ≡ n + m → u ≡ counted k
more t n m u k was now all = now ∙ ap (λ x. counted (x + m)) was ∙ counted_more n m ∙ ap counted (sym all)

same_totals : (t u : Totals) → t.ways ≡ u.ways → t.pieces ≡ u.pieces → t.contexts ≡ u.contexts → t.arcs ≡ u.arcs
    → t ≡ u
same_totals t u ways pieces contexts arcs = λ i. record {
  ways = ways i;
  pieces = pieces i;
  contexts = contexts i;
  arcs = arcs i;
}

-- with a block more
pub one_more : (front : List Block) (b : Block) (t u : Totals) → t ≡ totals_of front
    → u.ways ≡ counted (t.ways + 1) → u.pieces ≡ counted (t.pieces + length b.pieces)
    → u.contexts ≡ counted (t.contexts + contexts_on b.pieces) → u.arcs ≡ counted (t.arcs + arcs_on b.pieces)
    → u ≡ totals_of (front ++ b ∷ [])
one_more front b t u was ways pieces contexts arcs =
    let blocks = front ++ b ∷ [] in
    same_totals u (totals_of blocks)
    (more t.ways (length front) 1 u.ways (length blocks) (ap (λ x. x.ways) was) ways (length-append front (b ∷ [])))
    (more t.pieces (pieces_in front) (length b.pieces) u.pieces (pieces_in blocks) (ap (λ x. x.pieces) was) pieces
    (sum_by_push (λ (x : Block). length x.pieces) front b))
    (more t.contexts (contexts_in front) (contexts_on b.pieces) u.contexts (contexts_in blocks)
    (ap (λ x. x.contexts) was) contexts (sum_by_push (λ (x : Block). contexts_on x.pieces) front b))
    (more t.arcs (arcs_in front) (arcs_on b.pieces) u.arcs (arcs_in blocks) (ap (λ x. x.arcs) was) arcs
    (sum_by_push (λ (x : Block). arcs_on x.pieces) front b))
