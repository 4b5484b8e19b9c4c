-- The replies to queries for drives of least cost as bytes. Numbers are little endian.
use Rattle.std.specs.Prelude.{◌++◌, ℕ, List, [], ◌∷◌, Option, Some, None, codes, length}
use Rattle.std.specs.Int.{w128, to_le_bytes}
use Rattle.std.specs.List.{flat_map}
use Rattle.std.specs.Fmt.{decimal}
use Rattle.opl_lexer.specs.Letters.{newline}
use Rattle.context_search.specs.declared.found.Found.TheVariants.{Drive, NoNode, Nowhere}
use Rattle.least_cost.specs.declared.answers.Shortest.{Shortest}
use Rattle.least_cost.specs.declared.answers.Shortest.TheVariants.{Route, Nowhere as ShortestNowhere}
use Rattle.least_cost.specs.declared.answers.Shortest.TheVariants.{NoNode as ShortestNoNode}
use Rattle.least_cost.specs.declared.answers.Cheapest.{Cheapest}
use Rattle.least_cost.specs.declared.answers.Cheapest.TheVariants.{Route as CheapestRoute}
use Rattle.least_cost.specs.declared.answers.Cheapest.TheVariants.{Nowhere as CheapestNowhere}
use Rattle.least_cost.specs.declared.answers.Cheapest.TheVariants.{NoNode as CheapestNoNode}
use Rattle.session_replies.specs.Texts.{found_line}

-- `cost C drive STEP ..`, or what is replied where there is no drive between two nodes
abbrev pub shortest_line : Shortest → List ℕ
shortest_line (Route cost steps) = codes "cost " ++ (decimal cost ++ (codes " " ++ found_line (Drive steps)))
shortest_line (ShortestNoNode v) = found_line (NoNode v)
shortest_line ShortestNowhere = found_line Nowhere

-- what stands at a context: one byte 0 where that is nothing; else one byte 1, and the number in 16 bytes
abbrev pub potential_bytes : Option ℕ → List ℕ
potential_bytes None = 0 ∷ []
potential_bytes (Some n) = 1 ∷ to_le_bytes w128 n

-- what stands at each context, in their order
abbrev pub certificate_bytes : List (Option ℕ) → List ℕ
certificate_bytes list = flat_map potential_bytes list

-- `certificate LEN`, and behind the newline so many bytes, which are the certificate's
abbrev pub certificate_line : List ℕ → List ℕ
certificate_line certificate = codes "certificate " ++ (decimal (length certificate) ++ newline ∷ [])

abbrev pub certified_said : List (Option ℕ) → List ℕ
certified_said list = certificate_line (certificate_bytes list) ++ certificate_bytes list

-- the certificate, or which node there isn't
abbrev pub cheapest_said : Cheapest → List ℕ
cheapest_said (CheapestRoute cost steps list) = certified_said list
cheapest_said (CheapestNowhere list) = certified_said list
cheapest_said (CheapestNoNode v) = found_line (NoNode v)
