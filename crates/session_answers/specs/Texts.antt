-- The replies to frames as bytes, each with its newline.
use Rattle.std.specs.Prelude.{◌++◌, ℕ, List, [], ◌∷◌, codes}
use Rattle.std.specs.Fmt.{decimal}
use Rattle.opl_lexer.specs.Letters.{newline}
use Rattle.opl_lexer.specs.Reading.{FaultAt}
use Rattle.opl_objects.specs.Texts.{fault_bytes}

-- `applied N`
abbrev pub applied_line : ℕ → List ℕ
applied_line n = codes "applied " ++ (decimal n ++ newline ∷ [])

-- `refused N sequence KEPT`
abbrev pub refused_sequence_line : ℕ → ℕ → List ℕ
refused_sequence_line n kept = codes "refused " ++ (decimal n ++ (codes " sequence " ++ (decimal kept ++ newline ∷ [])))

-- `refused N line L field F KIND`
abbrev pub refused_fault_line : ℕ → FaultAt → List ℕ
refused_fault_line n fault = codes "refused " ++ (decimal n ++ (codes " " ++ (fault_bytes fault ++ newline ∷ [])))

-- `refused unfinished N`
abbrev pub unfinished_line : ℕ → List ℕ
unfinished_line n = codes "refused unfinished " ++ (decimal n ++ newline ∷ [])
