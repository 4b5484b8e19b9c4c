-- The replies to lines as bytes, each with its newline.
use Rattle.std.specs.Prelude.{◌++◌, ℕ, List, [], ◌∷◌, codes, length}
use Rattle.std.specs.List.{flat_map}
use Rattle.std.specs.Fmt.{decimal, signed_decimal}
use Rattle.road_base.specs.declared.ids.Step.{Step}
use Rattle.opl_lexer.specs.Letters.{newline}
use Rattle.drive_judging.specs.declared.verdict.Verdict.{Verdict}
use Rattle.drive_queries.specs.declared.totals.Totals.{Totals}
use Rattle.context_search.specs.declared.found.Found.{Found}
use Rattle.context_search.specs.declared.found.Found.TheVariants.{Drive, NoNode, Nowhere}
use Rattle.reply_lines.specs.Texts.{step_bytes, verdict_bytes, counts_bytes}

-- `unknown`
abbrev pub unknown_line : List ℕ
unknown_line = codes "unknown" ++ newline ∷ []

-- `state sequence N ways W pieces P contexts C arcs A`, with the kept number
abbrev pub state_line : ℕ → Totals → List ℕ
state_line kept totals = codes "state sequence "
    ++ (decimal kept ++ (codes " " ++ (counts_bytes totals ++ newline ∷ [])))

-- `legal`, or `broken K RULE`
abbrev pub verdict_line : Verdict → List ℕ
verdict_line verdict = verdict_bytes verdict ++ newline ∷ []

-- each step behind a space
abbrev pub steps_bytes : List Step → List ℕ
steps_bytes steps = flat_map (λ s. codes " " ++ step_bytes s) steps

-- `drive STEP ..`, `no-node N` or `none`
abbrev pub found_bytes : Found → List ℕ
found_bytes (Drive steps) = codes "drive" ++ steps_bytes steps
found_bytes (NoNode v) = codes "no-node " ++ signed_decimal v.0
found_bytes Nowhere = codes "none"

abbrev pub found_line : Found → List ℕ
found_line found = found_bytes found ++ newline ∷ []

-- `graph LEN`, and behind the newline so many bytes, which are the graph's
abbrev pub graph_line : List ℕ → List ℕ
graph_line graph = codes "graph " ++ (decimal (length graph) ++ newline ∷ [])
