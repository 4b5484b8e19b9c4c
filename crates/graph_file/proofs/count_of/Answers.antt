use Rattle.std.proofs.Common.{◌≡◌, ℕ, ◌+◌, ◌++◌, ◌∷◌, [], length, min, subst, sym, ap, ◌∙◌, append_assoc, arith, rules}
use Rattle.std.proofs.Common.{length-append}
use Rattle.std.specs.Option.{option_copied}
use Rattle.layered_maps.specs.Walks.{IsNext}
use Rattle.graph_file.proofs.count_of.Goals as goal

one_more : (n k old new : ℕ) → old ≡ min n 18446744073709551615 → k ≡ n + 1 → new ≡ min (old + 1) 18446744073709551615
    → new ≡ min k 18446744073709551615
one_more n k old new was more now = omega arith

pub loop-count-preserved : goal.loop-count-preserved
loop-count-preserved c =
    let was = c.loop-count.invariant in
    let block = c.in-Some.field-0.now in
    let rest = c.next.new.self in
    let front = was.front ++ block ∷ [] in
    let taken : c.loop-count.rest ≡ block ∷ rest =
    subst (λ o. IsNext o c.loop-count.rest rest) (ap option_copied c.in-Some.is) c.next.ensures in
    let now : c.saturating_add-count.result ≡ min (c.loop-count.count + 1) 18446744073709551615 = search rules in
    record {
      front = front;
      all = append_assoc was.front (block ∷ []) rest ∙ ap (λ l. was.front ++ l) (sym taken) ∙ was.all;
      count = one_more (length was.front) (length front) c.loop-count.count c.saturating_add-count.result was.count
          (length-append was.front (block ∷ [])) now;
    }
