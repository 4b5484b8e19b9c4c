-- An input that passes a limit passes it however it goes on.
use Rattle.std.proofs.Common.{◌++◌, ℕ, List, inl, inr, sym, ◌∙◌, arith, length-append}
use Rattle.std.proofs.lemmas.List.{get_or_append_left}
use Rattle.bounded_input.specs.Limits.{PassesLimit, HasLongLine}

still_long : (bytes behind : List ℕ) → HasLongLine bytes → HasLongLine (bytes ++ behind)
still_long bytes behind l =
    let inside = l.1.0 in
    let total = length-append bytes behind in
    (l.0, (omega arith, λ j from to e. l.1.1 j from to (sym (get_or_append_left bytes behind 0 j (omega arith)) ∙ e)))

pub still_passes : (bytes behind : List ℕ) → PassesLimit bytes → PassesLimit (bytes ++ behind)
still_passes bytes behind (inl more) = let total = length-append bytes behind in inl (omega arith)
still_passes bytes behind (inr long) = inr (still_long bytes behind long)
